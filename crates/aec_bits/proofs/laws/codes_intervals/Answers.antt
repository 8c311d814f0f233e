use Rattle.aec_bits.proofs.CodeLaws.{code_of_interval}
use Rattle.aec_bits.proofs.laws.codes_intervals.Goals as goal

pub returns : goal.returns
returns c = code_of_interval
