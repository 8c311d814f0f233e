use Rattle.std.proofs.Common.{◌≤◌, length, refl, sym, ap, ◌∙◌, arith}
use Rattle.aec_bits.specs.Codec.{Format}
use Rattle.aec_edit.specs.Batches.{all_after, all_needed}
use Rattle.aec_edit.proofs.RebuildLemmas.{draft_to_code}
use Rattle.aec_edit.proofs.StepLemmas.{can_draft}
use Rattle.aec_edit.proofs.workspace.Workspace.rebuild.Goals as goal

pub code_draft-requires : goal.code_draft-requires
code_draft-requires g c =
    let seen = c.args.self.now in
    let f : Format = g.C.Codec.format seen.codec in
    let left = all_after seen.samples c.args.edits.now in
    let made = c.in_ok-draft.ensures in
    let ready = draft_to_code f seen.samples left (all_needed f.most seen.samples c.args.edits.now) c.in_ok-draft.draft made.first.0 made.first.1 made.ok in (
      left,
      can_draft g.C.Codec.format g.C.Codec.called seen left c.in_ok-draft.draft _ ready.0 ready.1 made.ok.counted.held c.requires.calls,
      sym made.ok.counted.length_is,
    )

pub returns-in_err-coded-clause-rises : goal.returns-in_err-coded-clause-rises
returns-in_err-coded-clause-rises g c =
    let seen = c.args.self.now in
    let f : Format = g.C.Codec.format seen.codec in
    let left = all_after seen.samples c.args.edits.now in
    let made = c.in_ok-draft.ensures in
    let ready = draft_to_code f seen.samples left (all_needed f.most seen.samples c.args.edits.now) c.in_ok-draft.draft made.first.0 made.first.1 made.ok in
    let calls = c.in_err-coded.ensures.same.calls in
    record { stays = calls.stays; few = omega (arith, calls.few, ready.1) }

pub take_over-requires : goal.take_over-requires
take_over-requires g c =
    let seen = c.args.self.now in
    let f : Format = g.C.Codec.format seen.codec in
    let left = all_after seen.samples c.args.edits.now in
    let made = c.in_ok-draft.ensures in
    let coded = c.in_ok-coded.ensures in
    let ready = draft_to_code f seen.samples left (all_needed f.most seen.samples c.args.edits.now) c.in_ok-draft.draft made.first.0 made.first.1 made.ok in
    let can = can_draft g.C.Codec.format g.C.Codec.called seen left c.in_ok-draft.draft _ ready.0 ready.1 made.ok.counted.held c.requires.calls in
    let few : length left ≤ seen.limit = omega (arith, made.few, made.ok.counted.length_is) in (
      left,
      rw coded.same.format (record { length_is = refl; held = made.ok.counted.held }),
      rw coded.same.format (coded.ok left can (sym made.ok.counted.length_is)),
      rw coded.same.limit few,
    )

pub returns-clause-ok : goal.returns-clause-ok
returns-clause-ok g c =
    let seen = c.args.self.now in
    let f : Format = g.C.Codec.format seen.codec in
    let left = all_after seen.samples c.args.edits.now in
    let made = c.in_ok-draft.ensures in
    let coded = c.in_ok-coded.ensures in
    let ready = draft_to_code f seen.samples left (all_needed f.most seen.samples c.args.edits.now) c.in_ok-draft.draft made.first.0 made.first.1 made.ok in
    let can = can_draft g.C.Codec.format g.C.Codec.called seen left c.in_ok-draft.draft _ ready.0 ready.1 made.ok.counted.held c.requires.calls in
    c.take_over.ensures.samples left (rw coded.same.format made.ok.counted.held)
    (rw coded.same.format (coded.ok left can (sym made.ok.counted.length_is)))

pub returns-clause-rises : goal.returns-clause-rises
returns-clause-rises g c =
    let seen = c.args.self.now in
    let f : Format = g.C.Codec.format seen.codec in
    let left = all_after seen.samples c.args.edits.now in
    let made = c.in_ok-draft.ensures in
    let ready = draft_to_code f seen.samples left (all_needed f.most seen.samples c.args.edits.now) c.in_ok-draft.draft made.first.0 made.first.1 made.ok in
    let calls = c.in_ok-coded.ensures.same.calls in
    let same = ap g.C.Codec.called c.take_over.ensures.rest.codec in
    record { stays = omega (arith, calls.stays, same); few = omega (arith, calls.few, ready.1, same) }

pub returns-clause-rules : goal.returns-clause-rules
returns-clause-rules g c = record {
  limit = c.take_over.ensures.rest.limit ∙ c.in_ok-coded.ensures.same.limit;
  format = ap g.C.Codec.format c.take_over.ensures.rest.codec ∙ c.in_ok-coded.ensures.same.format;
}
