use Rattle.aec_c.proofs.handle_calls.aecp_read.Goals as goal

pub returns-clause-reads : goal.returns-clause-reads
returns-clause-reads c = rw (c.take-inside.ensures.held, c.put.ensures) c.read_range.ensures
