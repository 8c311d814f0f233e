use Rattle.aec_block.proofs.SetLemmas.{no_set_is_a_prefix}
use Rattle.aec_block.proofs.laws.no_set_is_a_prefix.Goals as goal

pub returns : goal.returns
returns c = no_set_is_a_prefix
