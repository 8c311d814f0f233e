use Rattle.aec_engine.proofs.OneEditLemmas.{editing_has_one_answer}
use Rattle.aec_engine.proofs.laws.each_script_has_one_answer.Goals as goal

pub returns : goal.returns
returns c = editing_has_one_answer
