use Rattle.std.proofs.Common.{◌≤◌, ap, ◌∙◌, subst, sym}
use Rattle.std.proofs.lemmas.Result.{err_from_is_err_and}
use Rattle.aec_params.specs.Params.{IsAllowed}
use Rattle.aec_params.specs.Limits.{most_samples}
use Rattle.aec_interval.specs.IntervalFormat.{interval_format}
use Rattle.aec_engine.specs.EarlyEdits.{not_read, lacks_room}
use Rattle.aec_engine.proofs.ReorderedLemmas.{edits_planned}
use Rattle.aec_engine.proofs.RoomLemmas.{room_judged, room_more}
use Rattle.aec_engine.proofs.engine.editing.edit_bits.Goals as goal

pub edit_planned-requires-clause-format : goal.edit_planned-requires-clause-format
edit_planned-requires-clause-format g c = ap g.C.Codec.format c.in_ok-workspace.ensures.empty.codec_is ∙ c.requires.format

pub edit_planned-requires-clause-empty : goal.edit_planned-requires-clause-empty
edit_planned-requires-clause-empty g c =
    let judged = c.in_ok-reader.ensures.ok in
    record {
      allowed = subst IsAllowed (sym judged.unread.start.settings) c.of-room.ensures.allowed;
      format = ap g.C.Codec.format c.in_ok-workspace.ensures.empty.codec_is ∙ c.requires.format ∙ ap interval_format (sym judged.unread.start.settings);
      limit_is = c.in_ok-workspace.ensures.empty.limit_is ∙ sym judged.limit;
      bound = subst (λ n. n ≤ most_samples) (sym c.in_ok-workspace.ensures.empty.limit_is) judged.limits.samples;
      empty = c.in_ok-workspace.ensures.empty.samples;
      fresh = ap g.C.Codec.called c.in_ok-workspace.ensures.empty.codec_is ∙ c.requires.fresh;
    }

pub edit_planned-requires-clause-room : goal.edit_planned-requires-clause-room
edit_planned-requires-clause-room g c =
    let judged = c.in_ok-reader.ensures.ok in
    room_more _ _ _ _ _
    (room_judged _ c.args.terms.params _ _ _ _ judged.ends judged.have judged.unread.start.settings c.of-room.ensures.enough c.of-room.ensures.bits
    c.of-room.ensures.intervals)
    c.in_ok-workspace.ensures.room.0 c.in_ok-workspace.ensures.room.1

pub returns-in_err-reader-clause-edits : goal.returns-in_err-reader-clause-edits
returns-in_err-reader-clause-edits g c =
    let exit = err_from_is_err_and c.from_residual.result c.from_residual.ensures.1 in
    rw (exit.1, exit.2) (not_read c.in_err-reader.field-0.0 c.in_err-reader.ensures.refuses)

pub returns-in_err-plan-clause-edits : goal.returns-in_err-plan-clause-edits
returns-in_err-plan-clause-edits g c =
    let exit = err_from_is_err_and c.from_residual-in_err-plan.result c.from_residual-in_err-plan.ensures.1 in
    rw (exit.1, exit.2, c.in_err-plan.ensures.fault) lacks_room

pub returns-in_err-workspace-clause-edits : goal.returns-in_err-workspace-clause-edits
returns-in_err-workspace-clause-edits g c =
    let exit = err_from_is_err_and c.from_residual-in_err-workspace.result c.from_residual-in_err-workspace.ensures.1 in
    rw (exit.1, exit.2, c.in_err-workspace.ensures.fault.0) lacks_room

pub returns-clause-edits : goal.returns-clause-edits
returns-clause-edits g c =
    edits_planned _ _ _ _ _ c.in_ok-reader.reader _ _ _ _ _ c.of-room.ensures.allowed c.requires.format (g.C.Codec.lawful c.args.codec).some
    c.in_ok-reader.ensures.ok c.in_ok-plan.ensures.alike (rw c.in_ok-workspace.ensures.empty.limit_is at c.edit_planned.ensures.edits)

pub returns-clause-limit : goal.returns-clause-limit
returns-clause-limit g c = rw (← c.in_ok-workspace.ensures.empty.limit_is) c.edit_planned.ensures.limit
