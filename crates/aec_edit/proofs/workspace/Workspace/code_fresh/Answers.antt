use Rattle.std.proofs.Common.{◌≡◌, ◌<◌, ◌≤◌, ◌++◌, ℤ, List, length, take, drop, refl, ap, ◌∙◌, arith}
use Rattle.std.specs.Int.{div_ceil}
use Rattle.std.proofs.lemmas.List.{length-drop}
use Rattle.aec_bits.specs.Codec.{Format}
use Rattle.aec_edit.specs.Workspace.{interval_count}
use Rattle.aec_edit.specs.Coming.{coming}
use Rattle.aec_edit.proofs.CodingLemmas.{splits_first, later_held, one_call_less, bits_more, starts_more}
use Rattle.aec_edit.proofs.UpToLemmas.{held_at}
use Rattle.aec_edit.proofs.FreshLemmas.{moves_further, rises_further}
use Rattle.aec_edit.proofs.workspace.Workspace.code_fresh.Goals as goal

pub code_next-requires : goal.code_next-requires
code_next-requires g c =
    let f : Format = g.C.Codec.format c.args.self.now.codec in
    let so_far = c.loop-left.invariant in
    let rest : List ℤ = coming g.C.Codec.format c.args.self.now c.loop-left.fresh in
    let came : coming g.C.Codec.format c.loop-left.self c.loop-left.fresh ≡ rest = rw (so_far.format, so_far.samples) refl in
    let some : 0 < length rest = omega (arith, so_far.left, c.loop-left-test.true) in
    let split = splits_first f rest (drop f.most rest) some refl in
    let all = ap (λ k. div_ceil k f.most) c.requires.fresh.count_is in
    let within : c.loop-left.fresh.end ≤ interval_count f c.args.self.now.samples = omega (arith, so_far.moves.end, c.requires.fresh.there.within) in
    record {
      there = record { order = so_far.moves.order; within = rw (so_far.format, so_far.samples) within };
      some = omega (arith, ap length came, some);
      held = held_at f _ _ rest so_far.format came so_far.held;
      calls = omega (arith, c.requires.calls, so_far.calls, one_call_less f (g.C.Codec.lawful c.args.self.now.codec) split, all);
    }

pub loop-left-preserved : goal.loop-left-preserved
loop-left-preserved g c =
    let f : Format = g.C.Codec.format c.args.self.now.codec in
    let lawful = g.C.Codec.lawful c.args.self.now.codec in
    let so_far = c.loop-left.invariant in
    let done = c.in_ok-code_next.ensures in
    let was = c.loop-left.coded in
    let now = c.code_next.new.coded in
    let rest : List ℤ = coming g.C.Codec.format c.args.self.now c.loop-left.fresh in
    let later : List ℤ = coming g.C.Codec.format c.args.self.now c.code_next.new.fresh in
    let came : later ≡ drop f.most rest = rw (so_far.format, so_far.samples) at done.ok.left in
    let grown : now.bits.list ≡ was.bits.list ++ f.bits_of (take f.most rest) = rw (so_far.format, so_far.samples) at done.ok.adds.bits in
    let split = splits_first f rest later (omega (arith, so_far.left, c.loop-left-test.true)) came in
    record {
      format = done.same.format ∙ so_far.format;
      samples = done.same.samples ∙ so_far.samples;
      limit = done.same.limit ∙ so_far.limit;
      held = later_held f split so_far.held;
      left = omega (arith, ap length came, length-drop f.most rest, so_far.left, c.interval_len-interval_len.ensures.value);
      within = omega (arith, so_far.within);
      moves = moves_further so_far.moves done.ok.moves;
      bits = bits_more f was.bits.list now.bits.list _ lawful split so_far.bits grown;
      starts = starts_more f was.bits.list now.bits.list was.starts.items now.starts.items _ (length was.bits.list) lawful split so_far.starts refl
          done.ok.adds.starts grown;
      calls = omega (arith, done.ok.calls, so_far.calls, one_call_less f lawful split);
      least = omega (arith, done.ok.calls, so_far.least);
    }

pub returns-in_err-code_next-clause-same : goal.returns-in_err-code_next-clause-same
returns-in_err-code_next-clause-same g c =
    let f : Format = g.C.Codec.format c.args.self.now.codec in
    let so_far = c.loop-left.invariant in
    let failed = c.in_err-code_next.ensures.same in
    let rest : List ℤ = coming g.C.Codec.format c.args.self.now c.loop-left.fresh in
    let some : 0 < length rest = omega (arith, so_far.left, c.loop-left-test.true) in
    let split = splits_first f rest (drop f.most rest) some refl in
    let all = ap (λ k. div_ceil k f.most) c.requires.fresh.count_is in
    record {
      samples = failed.samples ∙ so_far.samples;
      limit = failed.limit ∙ so_far.limit;
      format = failed.format ∙ so_far.format;
      calls = record {
        stays = omega (arith, failed.calls.stays, so_far.least);
        few = omega (arith, failed.calls.few, so_far.calls, one_call_less f (g.C.Codec.lawful c.args.self.now.codec) split, all);
      };
      reads = rises_further so_far.moves failed.reads;
    }
