use Rattle.std.proofs.Common.{inl}
use Rattle.aec_c.proofs.handle_edits.overwrite.Goals as goal

pub returns-in-Ok : goal.returns-in-Ok
returns-in-Ok c = inl (rw (← c.in-Ok.ensures.ok) c.apply_and_drop.ensures)
