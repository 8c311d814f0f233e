use Rattle.aec_c.proofs.reader_calls.aecp_reader_next.Goals as goal

pub returns-clause-puts : goal.returns-clause-puts
returns-clause-puts c = rw (c.take-inside.ensures.held, c.put.ensures) c.put_next.ensures
