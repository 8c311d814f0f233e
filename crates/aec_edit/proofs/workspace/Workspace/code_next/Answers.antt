use Rattle.std.proofs.Common.{◌≡◌, ◌++◌, ℤ, List, min, length, refl, ap, ◌∙◌, arith}
use Rattle.aec_bits.specs.Codec.{Format}
use Rattle.aec_edit.specs.Fresh.{old_part}
use Rattle.aec_edit.proofs.FreshLemmas.{moves_still}
use Rattle.aec_edit.proofs.UpToLemmas.{held_at}
use Rattle.aec_edit.proofs.CodingLemmas.{one_more_call, front_taken, front_dropped, front_interval}
use Rattle.aec_edit.proofs.KeptLemmas.{coded_once, read_and_coded}
use Rattle.aec_edit.proofs.workspace.Workspace.code_next.Goals as goal

pub returns-then-fresh-interval_len-clause-same : goal.returns-then-fresh-interval_len-clause-same
returns-then-fresh-interval_len-clause-same g c =
    coded_once g.C.Codec.format g.C.Codec.called g.C.Codec.read _ c.self.inside.written _ c.args.self.now (g.C.Codec.lawful c.code.new.self)
    c.self.view_is c.code.ensures.same_format c.code.ensures.same_reads
    (one_more_call c.code.result _ _ c.code.ensures.counts c.code.ensures.calls_err)

pub code-requires-2 : goal.code-requires-2
code-requires-2 g c =
    let seen = c.args.self.now in
    let f : Format = g.C.Codec.format seen.codec in
    let now = c.gather.new.fresh in
    let rest : List ℤ = now.values.now ++ (now.back.items ++ old_part f.most seen.samples now.next now.end) in
    let same = c.in_ok-gather.ensures.ok.same in
    let len : c.min-len.result ≡ min f.most (length now.front.items) = omega (arith, c.interval_len-interval_len.ensures.value, now.front.ok.0) in
    let front = front_interval f now.front.items rest c.min-len.result len c.in_ok-gather.ensures.gathered (g.C.Codec.lawful seen.codec).some
    (omega (arith, ap length same, c.requires.some)) (held_at f f _ _ refl same c.requires.held) in
    rw (ap (λ w. g.C.Codec.format w.codec) c.self-2.view_is ∙ c.in_ok-gather.ensures.read.format, c.deref.ensures.value) front

pub returns-in_err-code-clause-same : goal.returns-in_err-code-clause-same
returns-in_err-code-clause-same g c =
    let failed = c.in_err-code.ensures in
    read_and_coded c.in_ok-gather.ensures.read
    (coded_once g.C.Codec.format g.C.Codec.called g.C.Codec.read 0 c.self-2.inside.written _ c.gather.new.self (g.C.Codec.lawful c.code-2.new.self)
    c.self-2.view_is failed.same_format failed.same_reads
    (record { stays = omega (arith, failed.calls_err); few = omega (arith, failed.calls_err) }))

pub returns-clause-ok : goal.returns-clause-ok
returns-clause-ok g c =
    let seen = c.args.self.now in
    let f : Format = g.C.Codec.format seen.codec in
    let now = c.gather.new.fresh in
    let rest : List ℤ = now.values.now ++ (now.back.items ++ old_part f.most seen.samples now.next now.end) in
    let got = c.in_ok-gather.ensures in
    let coded = c.in_ok-code.ensures in
    let len : c.min-len.result ≡ min f.most (length now.front.items) = omega (arith, c.interval_len-interval_len.ensures.value, now.front.ok.0) in
    let format = ap (λ w. g.C.Codec.format w.codec) c.self-2.view_is ∙ got.read.format in
    let taken = front_taken f now.front.items rest c.min-len.result len got.gathered got.ok.same in
    record {
      left = front_dropped f now.front.items rest c.min-len.result len got.gathered got.ok.same c.drop_front.ensures;
      adds = record {
        bits = rw (format, c.deref.ensures.value, taken) at coded.ok;
        starts = rw c.len.ensures.value at c.in_ok-push.ensures.items;
      };
      calls = omega (arith, coded.counts, ap (λ w. g.C.Codec.called w.codec) c.self-2.view_is, got.read.calls);
      moves = moves_still got.ok.moves (coded.same_reads ∙ ap (λ w. g.C.Codec.read w.codec) c.self-2.view_is) refl refl;
    }

pub returns-clause-same : goal.returns-clause-same
returns-clause-same g c =
    let done = c.in_ok-code.ensures in
    read_and_coded c.in_ok-gather.ensures.read
    (coded_once g.C.Codec.format g.C.Codec.called g.C.Codec.read 0 c.self-2.inside.written _ c.gather.new.self (g.C.Codec.lawful c.code-2.new.self)
    c.self-2.view_is done.same_format done.same_reads
    (record { stays = omega (arith, done.counts); few = omega (arith, done.counts) }))
