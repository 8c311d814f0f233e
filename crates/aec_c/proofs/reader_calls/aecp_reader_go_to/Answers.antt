use Rattle.aec_c.proofs.reader_calls.aecp_reader_go_to.Goals as goal

pub returns-clause-goes : goal.returns-clause-goes
returns-clause-goes c = rw (c.take-inside.ensures.held, c.put.ensures) c.go_to.ensures
