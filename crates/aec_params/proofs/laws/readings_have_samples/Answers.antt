use Rattle.aec_params.proofs.ReadingLaws.{samples-of_reading, FillBlocks-one_to_one}
use Rattle.aec_params.proofs.laws.readings_have_samples.Goals as goal

pub returns : goal.returns
returns c = record { samples = samples-of_reading; unique = FillBlocks-one_to_one }
