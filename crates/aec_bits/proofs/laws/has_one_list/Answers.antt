use Rattle.aec_bits.proofs.CodeLaws.{same_samples_follow}
use Rattle.aec_bits.proofs.laws.has_one_list.Goals as goal

pub returns : goal.returns
returns c = same_samples_follow
