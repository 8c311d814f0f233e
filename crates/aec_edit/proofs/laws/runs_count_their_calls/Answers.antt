use Rattle.aec_edit.proofs.RunLaws.{calls_rise}
use Rattle.aec_edit.proofs.laws.runs_count_their_calls.Goals as goal

pub returns : goal.returns
returns c = calls_rise
