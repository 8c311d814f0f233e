use Rattle.aec_params.proofs.SampleShapeLaws.{all_blocks_of-shape}
use Rattle.aec_params.proofs.FillLaws.{samples-of_blocks}
use Rattle.aec_params.proofs.laws.samples_are_blocks.Goals as goal

pub returns : goal.returns
returns c = record { shape = all_blocks_of-shape; onto = samples-of_blocks }
