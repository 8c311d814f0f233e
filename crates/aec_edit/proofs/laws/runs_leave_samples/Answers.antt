use Rattle.aec_edit.proofs.RunLaws.{all_left-within}
use Rattle.aec_edit.proofs.laws.runs_leave_samples.Goals as goal

pub returns : goal.returns
returns c = all_left-within
