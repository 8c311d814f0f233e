use Rattle.aec_params.proofs.LostIntervalLaws.{insertion_loses, removal_loses}
use Rattle.aec_params.proofs.laws.moves_open_what_is_lost.Goals as goal

pub returns : goal.returns
returns c = record { inserted = insertion_loses; removed = removal_loses }
