use Rattle.aec_params.proofs.SampleLaws.{blocks_of-one_to_one, all_blocks_of-one_to_one}
use Rattle.aec_params.proofs.laws.blocks_tell_samples.Goals as goal

pub returns : goal.returns
returns c = record { interval = blocks_of-one_to_one; all = all_blocks_of-one_to_one }
