use Rattle.aec_bits.proofs.CodeLaws.{code_of_around}
use Rattle.aec_bits.proofs.laws.stands_between.Goals as goal

pub returns : goal.returns
returns c = code_of_around
