use Rattle.aec_bits.proofs.EndsLemmas.{rest_of_window}
use Rattle.aec_bits.proofs.bit_reader.windows.window_after.Goals as goal

pub returns-clause-rest : goal.returns-clause-rest
returns-clause-rest c = (rest_of_window c.args.window.word c.args.window.left c.args.gone c.requires.some c.requires.there c.requires.size).0
