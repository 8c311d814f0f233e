use Rattle.std.proofs.Common.{◌+◌, take, sym, subst, refl, arith}
use Rattle.std.proofs.lemmas.List.{take_all}
use Rattle.aec_bits.specs.Codec.{Format}
use Rattle.aec_edit.specs.Batches.{all_after, all_needed}
use Rattle.aec_edit.specs.Batched.{FitSoFar}
use Rattle.aec_edit.specs.Drafts.{IsDraft}
use Rattle.aec_edit.proofs.BatchLemmas.{fit_first, fits_more, none_here, refused_none}
use Rattle.aec_edit.proofs.RebuildLemmas.{rewound}
use Rattle.aec_edit.proofs.StepLemmas.{draft_more}
use Rattle.aec_edit.proofs.workspace.Workspace.draft_of.Goals as goal

pub loop-edit-init : goal.loop-edit-init
loop-edit-init g c =
    let seen = c.args.self.now in
    let first = c.in_ok-draft.ensures in
    record {
      fit = fit_first (g.C.Codec.format seen.codec) seen.limit c.in_ok-draft.draft.count seen.samples (g.C.Codec.called seen.codec) c.args.edits.now
          first.ok.counted first.few;
      draft = first.ok;
    }

pub returns-in_err-change-clause-fault : goal.returns-in_err-change-clause-fault
returns-in_err-change-clause-fault g c =
    let seen = c.args.self.now in
    let f : Format = g.C.Codec.format seen.codec in
    let so_far = c.loop-edit.invariant in
    let i = c.loop-edit.edit-index in
    let here = all_after seen.samples (take i c.args.edits.now) in
    let calls = g.C.Codec.called seen.codec + all_needed f.most seen.samples (take i c.args.edits.now) in
    let none = none_here c.args.edits.now i c.edit-item.result c.loop-edit-test.true c.edit-item.is f seen.limit seen.samples
    (g.C.Codec.called seen.codec) c.loop-edit.draft.count so_far.fit c.requires in
    absurd (refused_none f seen.limit here calls c.edit-item.result _ none (c.in_err-change.ensures here so_far.fit.counted))

pub add-requires : goal.add-requires
add-requires g c =
    let seen = c.args.self.now in
    let f : Format = g.C.Codec.format seen.codec in
    let so_far = c.loop-edit.invariant in
    let front = take c.loop-edit.edit-index c.args.edits.now in
    let here = all_after seen.samples front in
    (here, all_needed f.most seen.samples front, so_far.draft, (c.in_ok-change.ensures here so_far.fit.counted).made)

pub loop-edit-preserved : goal.loop-edit-preserved
loop-edit-preserved g c =
    let seen = c.args.self.now in
    let f : Format = g.C.Codec.format seen.codec in
    let calls = g.C.Codec.called seen.codec in
    let so_far = c.loop-edit.invariant in
    let edits = c.args.edits.now in
    let i = c.loop-edit.edit-index in
    let edit = c.edit-item.result in
    let here = all_after seen.samples (take i edits) in
    let is_it = c.in_ok-change.ensures here so_far.fit.counted in
    let none = none_here edits i edit c.loop-edit-test.true c.edit-item.is f seen.limit seen.samples calls c.loop-edit.draft.count so_far.fit c.requires in
    let drafted = c.in_ok-add.ensures.ok here (all_needed f.most seen.samples (take i edits)) so_far.draft is_it.made in
    record {
      fit = subst (FitSoFar f seen.limit seen.samples calls edits (i + 1)) (sym c.in_ok-add.ensures.count)
          (fits_more edits i edit c.loop-edit-test.true c.edit-item.is f seen.limit seen.samples calls c.loop-edit.draft.count so_far.fit
          c.in_ok-change.change is_it none);
      draft = draft_more f seen.limit seen.samples edits i edit c.in_ok-change.change c.add.new.draft c.loop-edit-test.true c.edit-item.is is_it drafted;
    }

pub returns-clause-ok : goal.returns-clause-ok
returns-clause-ok g c =
    let seen = c.args.self.now in
    let f : Format = g.C.Codec.format seen.codec in
    let so_far = c.loop-edit.invariant in
    let whole = take_all c.loop-edit.edit-index c.args.edits.now (omega (arith, c.loop-edit-test.false)) in
    let all = subst (λ l. IsDraft f seen.samples (all_after seen.samples l) (all_needed f.most seen.samples l) c.loop-edit.draft) whole so_far.draft in
    rewound f seen.samples _ _ c.loop-edit.draft _ all c.in_ok-back_to.ensures.same c.in_ok-back_to-2.ensures.same refl refl c.in_ok-back_to.ensures.cut
    c.in_ok-back_to-2.ensures.cut
