use Rattle.aec_params.proofs.NewIntervalLaws.{insertion_new, removal_new}
use Rattle.aec_params.proofs.laws.moves_code_what_is_new.Goals as goal

pub returns : goal.returns
returns c = record { inserted = insertion_new; removed = removal_new }
