use Rattle.aec_bits.proofs.CodeLaws.{code_of-append}
use Rattle.aec_bits.proofs.laws.cuts_at_intervals.Goals as goal

pub returns : goal.returns
returns c = code_of-append
