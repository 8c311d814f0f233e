use Rattle.aec_c.proofs.coder_calls.aecp_coder_finish.Goals as goal

pub returns-clause-finishes : goal.returns-clause-finishes
returns-clause-finishes c = rw (c.take-inside.ensures.held, c.put.ensures) c.finish.ensures
