use Rattle.aec_interval.proofs.SkippingLemmas.{sets_stand_for_samples}
use Rattle.aec_interval.proofs.laws.coded_data_sets_stand_for_samples.Goals as goal

pub returns : goal.returns
returns c = sets_stand_for_samples
