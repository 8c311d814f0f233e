use Rattle.aec_block.proofs.StandingLemmas.{one_set_stands}
use Rattle.aec_block.proofs.laws.one_set_stands.Goals as goal

pub returns : goal.returns
returns c = one_set_stands
