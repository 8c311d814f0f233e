use Rattle.aec_interval.proofs.CodeOffsetLemmas.{offsets_are_of_the_code}
use Rattle.aec_interval.proofs.laws.offsets_are_of_the_code.Goals as goal

pub returns : goal.returns
returns c = offsets_are_of_the_code
