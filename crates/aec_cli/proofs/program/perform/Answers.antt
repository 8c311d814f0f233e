use Rattle.aec_cli.proofs.program.perform.Goals as goal

pub returns-clause-ends : goal.returns-clause-ends
returns-clause-ends g c = (c.run_words.result, c.status.ensures, c.run_words.ensures.mistakes, c.run_words.ensures.refusals)
