use Rattle.aec_params.proofs.PairLaws.{pair_number-one_to_one, pair_number-onto}
use Rattle.aec_params.proofs.laws.each_number_is_one_pair.Goals as goal

pub returns : goal.returns
returns c = record { one_to_one = pair_number-one_to_one; onto = pair_number-onto }
