use Rattle.aec_block.proofs.ShortestLemmas.{no_option_is_shorter}
use Rattle.aec_block.proofs.laws.no_option_is_shorter.Goals as goal

pub returns : goal.returns
returns c = no_option_is_shorter
