use Rattle.aec_c.proofs.handle_calls.aecp_write.Goals as goal

pub returns-clause-writes : goal.returns-clause-writes
returns-clause-writes c = rw (c.take-inside.ensures.held, c.put.ensures) c.write_code.ensures
