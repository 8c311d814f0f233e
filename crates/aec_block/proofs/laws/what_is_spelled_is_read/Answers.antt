use Rattle.aec_block.proofs.SetLemmas.{what_is_spelled_is_read}
use Rattle.aec_block.proofs.laws.what_is_spelled_is_read.Goals as goal

pub returns : goal.returns
returns c = what_is_spelled_is_read
