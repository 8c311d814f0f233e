use Rattle.aec_c.proofs.handle_calls.aecp_apply.Goals as goal

pub returns-clause-applies : goal.returns-clause-applies
returns-clause-applies c = rw (c.take-inside.ensures.held, c.put.ensures) c.apply_script.ensures
