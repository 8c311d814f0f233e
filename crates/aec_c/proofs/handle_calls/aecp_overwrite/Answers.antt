use Rattle.aec_c.proofs.handle_calls.aecp_overwrite.Goals as goal

pub returns-clause-edits : goal.returns-clause-edits
returns-clause-edits c = rw (c.take-inside.ensures.held, c.put.ensures) c.overwrite.ensures
