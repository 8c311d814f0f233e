use Rattle.std.proofs.Common.{◌++◌, ◌∷◌, [], drop, refl, sym, ap, ◌∙◌, subst, arith}
use Rattle.aec_bits.specs.Codec.{Format}
use Rattle.aec_edit.specs.Pieces.{places_after}
use Rattle.aec_edit.specs.Drafts.{AreAt}
use Rattle.aec_edit.proofs.DraftLemmas.{AreAt-length}
use Rattle.aec_edit.proofs.RebuildLemmas.{is_interval, keeps_then, keeps_still}
use Rattle.aec_edit.proofs.StepLemmas.{one_mark, step_kept, step_fresh, fresh_here}
use Rattle.aec_edit.proofs.workspace.Workspace.code_step.Goals as goal

pub drop_next-requires : goal.drop_next-requires
drop_next-requires g c =
    let rest = c.requires.rest.0 in
    let can = c.requires.rest.1 in
    omega (arith, c.requires.rest.2, AreAt-length _ (places_after c.args.draft.now.samples.after.items) rest can.to_code.places)

pub returns-then-mark-intervals-clause-ok : goal.returns-then-mark-intervals-clause-ok
returns-then-mark-intervals-clause-ok g c = λ rest can len_is.
    let seen = c.args.self.now in
    let f : Format = g.C.Codec.format seen.codec in
    let some = (g.C.Codec.lawful seen.codec).some in
    let mark = c.in_ok-mark.ensures in
    let one = one_mark f.most seen.samples rest c.in_ok-mark.mark c.args.draft.now.intervals.after.items some can.to_code.marks mark.few mark.some
    (omega (arith, len_is, c.requires.some)) in
    let step = step_kept f seen.samples rest c.args.draft.now _ c.in_ok-mark.mark c.args.len c.args.coded.now _ can.to_code len_is one mark.ok refl
    (c.in_ok-push.ensures.items ∙ ap (λ n. c.args.coded.now.starts.items ++ n ∷ []) c.len.ensures.value)
    (omega (arith, c.if-mark-intervals.true, c.intervals.ensures)) c.in_ok-drop_next.ensures.ok c.in_ok-copy_interval.ensures.ok in
    record { to_code = step.0; adds = step.1; calls = omega (arith, step.2) }

pub returns-then-mark-intervals-clause-same : goal.returns-then-mark-intervals-clause-same
returns-then-mark-intervals-clause-same g c = keeps_still g.C.Codec.format g.C.Codec.called 1 c.args.self.now

pub gather_next-requires-clause-rest : goal.gather_next-requires-clause-rest
gather_next-requires-clause-rest g c =
    let seen = c.args.self.now in
    let rest = c.requires.rest.0 in
    let can = c.requires.rest.1 in (
      rest,
      subst (λ v. AreAt (seen.samples ++ v) (places_after c.args.draft.now.samples.after.items) rest) (sym c.as_slice-values.ensures.value) can.to_code.places,
      omega (arith, c.requires.rest.2),
    )

pub code_front-requires-clause-interval : goal.code_front-requires-clause-interval
code_front-requires-clause-interval g c =
    let seen = c.args.self.now in
    let f : Format = g.C.Codec.format seen.codec in
    let rest = c.requires.rest.0 in
    let can = c.requires.rest.1 in
    let got = c.in_ok-gather_next.ensures in
    let at = subst (λ v. AreAt (seen.samples ++ v) (places_after c.args.draft.now.samples.after.items) rest) (sym c.as_slice-values.ensures.value)
    can.to_code.places in
    rw got.same.format
    (is_interval f c.args.len c.gather_next.new.reader.front.items rest (got.ok rest at (omega (arith, c.requires.rest.2))).0 c.requires.rest.2
    c.requires.some can.held)

pub code_front-requires-clause-calls : goal.code_front-requires-clause-calls
code_front-requires-clause-calls g c =
    let seen = c.args.self.now in
    let f : Format = g.C.Codec.format seen.codec in
    let rest = c.requires.rest.0 in
    let can = c.requires.rest.1 in
    let mark = c.in_ok-mark.ensures in
    let one = one_mark f.most seen.samples rest c.in_ok-mark.mark c.args.draft.now.intervals.after.items (g.C.Codec.lawful seen.codec).some can.to_code.marks
    mark.few mark.some (omega (arith, c.requires.rest.2, c.requires.some)) in
    let fresh = fresh_here f.most seen.samples c.args.draft.now c.in_ok-mark.mark c.take_next.new.after.items one mark.ok
    (omega (arith, c.if-mark-intervals.false, c.intervals.ensures)) in
    omega (arith, can.calls, c.in_ok-gather_next.ensures.same.calls.few, fresh)

pub returns-clause-ok : goal.returns-clause-ok
returns-clause-ok g c = λ rest can len_is.
    let seen = c.args.self.now in
    let f : Format = g.C.Codec.format seen.codec in
    let mark = c.in_ok-mark.ensures in
    let got = c.in_ok-gather_next.ensures in
    let piece = c.in_ok-mark.mark in
    let one = one_mark f.most seen.samples rest piece c.args.draft.now.intervals.after.items (g.C.Codec.lawful seen.codec).some can.to_code.marks
    mark.few mark.some (omega (arith, len_is, c.requires.some)) in
    let at = subst (λ v. AreAt (seen.samples ++ v) (places_after c.args.draft.now.samples.after.items) rest) (sym c.as_slice-values.ensures.value)
    can.to_code.places in
    let read = got.ok rest at (omega (arith, len_is)) in
    let later = subst (λ v. AreAt (seen.samples ++ v) (places_after c.gather_next.new.after.items) (drop c.args.len rest)) c.as_slice-values.ensures.value
    read.1 in
    let starts = c.in_ok-push.ensures.items ∙ ap (λ n. c.args.coded.now.starts.items ++ n ∷ []) c.len.ensures.value in
    let step = step_fresh f seen.samples rest c.args.draft.now _ piece c.args.len c.args.coded.now _ can.to_code len_is one mark.ok refl starts
    c.gather_next.new.reader.front.items later read.0 (rw got.same.format at c.in_ok-code_front.ensures.ok) in
    let fresh = fresh_here f.most seen.samples c.args.draft.now piece c.take_next.new.after.items one mark.ok
    (omega (arith, c.if-mark-intervals.false, c.intervals.ensures)) in
    record { to_code = step.0; adds = step.1; calls = omega (arith, fresh, c.in_ok-code_front.ensures.counts, got.same.calls.few, got.same.calls.stays) }

pub returns-clause-same : goal.returns-clause-same
returns-clause-same g c = keeps_then c.in_ok-gather_next.ensures.same c.in_ok-code_front.ensures.same refl
