use Rattle.aec_c.proofs.coder_calls.aecp_coder_take.Goals as goal

pub returns-clause-takes : goal.returns-clause-takes
returns-clause-takes c = rw (c.take-inside.ensures.held, c.put.ensures) c.take.ensures
