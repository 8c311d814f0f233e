use Rattle.aec_params.proofs.MoveLaws.{needed_calls-insert_last, needed_calls-remove_last}
use Rattle.aec_params.proofs.laws.ends_meet.Goals as goal

pub returns : goal.returns
returns c = record { inserted = needed_calls-insert_last; removed = needed_calls-remove_last }
