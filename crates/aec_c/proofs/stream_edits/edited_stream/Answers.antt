use Rattle.std.proofs.Common.{sym}
use Rattle.aec_c.specs.StreamEdits.{not_allowed}
use Rattle.aec_c.proofs.stream_edits.edited_stream.Goals as goal

pub returns-in-Ok-clause-ok : goal.returns-in-Ok-clause-ok
returns-in-Ok-clause-ok c = rw (← c.in-Ok.ensures.ok, ← c.count_of.ensures) c.edited_bytes.ensures.ok

pub returns-in-Ok-clause-counted : goal.returns-in-Ok-clause-counted
returns-in-Ok-clause-counted c = rw (← c.in-Ok.ensures.ok) c.edited_bytes.ensures.counted

pub returns-in-Ok-clause-refuses : goal.returns-in-Ok-clause-refuses
returns-in-Ok-clause-refuses c = rw (← c.in-Ok.ensures.ok, ← c.count_of.ensures) c.edited_bytes.ensures.refuses

pub returns-in-Err-clause-refuses : goal.returns-in-Err-clause-refuses
returns-in-Err-clause-refuses c = not_allowed c.in-Err.fault (sym c.in-Err.ensures.refuses)
