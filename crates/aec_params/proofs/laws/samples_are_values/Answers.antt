use Rattle.aec_params.proofs.ValueLaws.{values_are_samples}
use Rattle.aec_params.proofs.laws.samples_are_values.Goals as goal

pub returns : goal.returns
returns c = values_are_samples
