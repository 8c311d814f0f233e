use Rattle.aec_edit.proofs.RunLaws.{some_answers, one_answer}
use Rattle.aec_edit.proofs.laws.runs_have_one_answer.Goals as goal

pub returns : goal.returns
returns c = record { some = some_answers; one = one_answer }
