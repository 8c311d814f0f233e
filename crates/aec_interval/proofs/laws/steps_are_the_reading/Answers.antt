use Rattle.aec_interval.proofs.PieceReadingLemmas.{steps_are_the_reading}
use Rattle.aec_interval.proofs.laws.steps_are_the_reading.Goals as goal

pub returns : goal.returns
returns c = steps_are_the_reading
