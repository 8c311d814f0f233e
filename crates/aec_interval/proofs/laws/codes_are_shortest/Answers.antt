use Rattle.aec_interval.proofs.OptimalityLemmas.{codes_are_shortest}
use Rattle.aec_interval.proofs.laws.codes_are_shortest.Goals as goal

pub returns : goal.returns
returns c = codes_are_shortest
