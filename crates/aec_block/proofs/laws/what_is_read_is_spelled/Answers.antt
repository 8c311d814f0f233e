use Rattle.aec_block.proofs.SetLemmas.{what_is_read_is_spelled}
use Rattle.aec_block.proofs.laws.what_is_read_is_spelled.Goals as goal

pub returns : goal.returns
returns c = what_is_read_is_spelled
