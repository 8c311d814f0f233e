use Rattle.std.proofs.Common.{◌≡◌, ◌-◌, min, drop, inl, refl, sym, ◌∙◌, subst, arith}
use Rattle.aec_bits.specs.Codec.{Format}
use Rattle.aec_edit.specs.Drafts.{IsToCode}
use Rattle.aec_edit.proofs.StepLemmas.{coding_starts, can_step, one_interval, all_stepped, coded_all}
use Rattle.aec_edit.proofs.workspace.Workspace.code_draft.Goals as goal

pub loop-left-init : goal.loop-left-init
loop-left-init g c =
    let seen = c.args.self.now in
    let f : Format = g.C.Codec.format seen.codec in
    let draft = c.args.draft.now in
    let none : draft.count - draft.count ≡ 0 = omega arith in
    record {
      few = omega arith;
      count = refl;
      reader = inl c.new-reader.ensures;
      samples = refl;
      limit = refl;
      format = refl;
      calls = refl;
      least = omega arith;
      rest = λ s can count_is.
          let starts = coding_starts f s c.new-coded.result _ none c.new-coded.ensures.none.bits c.new-coded.ensures.none.starts in
          let to_code = subst (λ k. IsToCode f.most seen.samples (drop k s) draft) (sym none) can.to_code in
          record { to_code = to_code; bits = starts.0; starts = starts.1 };
    }

pub code_step-requires-clause-rest : goal.code_step-requires-clause-rest
code_step-requires-clause-rest g c =
    let seen = c.args.self.now in
    let f : Format = g.C.Codec.format seen.codec in
    let so_far = c.loop-left.invariant in
    let s = c.requires.0 in
    let can = c.requires.1 in
    let here = so_far.rest s can c.requires.2 in
    let len : c.min-len.result ≡ min f.most c.loop-left.left = omega (arith, c.min-len.ensures, c.interval_len-interval_len.ensures.value) in (
      drop (c.args.draft.now.count - c.loop-left.left) s,
      can_step g.C.Codec.format g.C.Codec.called seen c.loop-left.self c.loop-left.self s c.args.draft.now c.loop-left.draft c.loop-left.draft
          c.loop-left.coded c.loop-left.coded c.args.draft.now.count c.loop-left.left c.min-len.result (g.C.Codec.lawful seen.codec) so_far.format
          so_far.samples so_far.calls can c.requires.2 so_far.few here,
      one_interval g.C.Codec.format g.C.Codec.called seen c.loop-left.self c.loop-left.self s c.args.draft.now c.loop-left.draft c.loop-left.draft
          c.loop-left.coded c.loop-left.coded c.args.draft.now.count c.loop-left.left c.min-len.result (g.C.Codec.lawful seen.codec) so_far.format
          so_far.samples so_far.calls can c.requires.2 so_far.few here len,
    )

pub code_step-requires-clause-some : goal.code_step-requires-clause-some
code_step-requires-clause-some g c =
    omega (
      arith,
      c.min-len.ensures,
      c.interval_len-interval_len.ensures.value,
      (g.C.Codec.lawful c.args.self.now.codec).some,
      c.loop-left-test.true,
    )

pub code_step-requires-clause-reader : goal.code_step-requires-clause-reader
code_step-requires-clause-reader g c = rw (c.loop-left.invariant.format, c.loop-left.invariant.samples) c.loop-left.invariant.reader

pub loop-left-preserved : goal.loop-left-preserved
loop-left-preserved g c =
    let seen = c.args.self.now in
    let so_far = c.loop-left.invariant in let did = c.in_ok-code_step.ensures in
    let len : c.min-len.result ≡ min (g.C.Codec.format seen.codec).most c.loop-left.left =
    omega (arith, c.min-len.ensures, c.interval_len-interval_len.ensures.value) in
    let on = all_stepped g.C.Codec.format g.C.Codec.called seen c.loop-left.self c.code_step.new.self c.args.draft.now c.loop-left.draft
    c.code_step.new.draft c.loop-left.coded c.code_step.new.coded c.args.draft.now.count c.loop-left.left c.min-len.result (g.C.Codec.lawful seen.codec)
    so_far.format so_far.samples so_far.calls so_far.few so_far.rest did.ok (omega (arith, c.loop-left-test.true)) len in
    record {
      few = omega (arith, so_far.few);
      count = did.count ∙ so_far.count;
      reader = rw (so_far.format, so_far.samples) at did.reader;
      samples = did.same.samples ∙ so_far.samples;
      limit = did.same.limit ∙ so_far.limit;
      format = did.same.format ∙ so_far.format;
      calls = (on c.requires.0 c.requires.1 c.requires.2).1;
      least = omega (arith, so_far.least, did.same.calls.stays);
      rest = λ s can count_is. (on s can count_is).0;
    }

pub returns-in_err-code_step-clause-same : goal.returns-in_err-code_step-clause-same
returns-in_err-code_step-clause-same g c =
    let so_far = c.loop-left.invariant in
    let failed = c.in_err-code_step.ensures in
    record {
      samples = failed.same.samples ∙ so_far.samples;
      limit = failed.same.limit ∙ so_far.limit;
      format = failed.same.format ∙ so_far.format;
      calls = record {
        stays = omega (arith, so_far.least, failed.err);
        few = omega (arith, so_far.calls, failed.err);
      };
    }

pub returns-clause-ok : goal.returns-clause-ok
returns-clause-ok g c = λ s can count_is.
    let seen = c.args.self.now in
    let f : Format = g.C.Codec.format seen.codec in
    let so_far = c.loop-left.invariant in
    let all = so_far.rest s can count_is in
    coded_all f s _ c.loop-left.coded.bits.list c.loop-left.coded.starts.items (c.args.draft.now.count - c.loop-left.left) (g.C.Codec.lawful seen.codec)
    (omega (arith, count_is, c.loop-left-test.false)) all.bits all.starts refl refl (so_far.count ∙ count_is)

pub returns-clause-same : goal.returns-clause-same
returns-clause-same g c =
    let so_far = c.loop-left.invariant in
    record {
      samples = so_far.samples;
      limit = so_far.limit;
      format = so_far.format;
      calls = record { stays = so_far.least; few = omega (arith, so_far.calls) };
    }
