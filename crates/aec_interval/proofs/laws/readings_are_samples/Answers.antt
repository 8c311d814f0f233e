use Rattle.aec_interval.proofs.ReadingLemmas.{readings_are_samples}
use Rattle.aec_interval.proofs.laws.readings_are_samples.Goals as goal

pub returns : goal.returns
returns c = readings_are_samples
