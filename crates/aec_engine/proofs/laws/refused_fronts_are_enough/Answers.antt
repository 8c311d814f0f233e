use Rattle.aec_engine.proofs.JudgingLemmas.{many_are_refused}
use Rattle.aec_engine.proofs.FrontLemmas.{coding-front, decoding-front, ranging-front}
use Rattle.aec_engine.proofs.EditFrontLemmas.{editing-front, scripts-front}
use Rattle.aec_engine.proofs.laws.refused_fronts_are_enough.Goals as goal

pub returns : goal.returns
returns c = record {
  coding = coding-front;
  samples = λ s caps front many. many_are_refused s caps.samples front many;
  decoding = decoding-front;
  ranging = ranging-front;
  editing = editing-front;
  scripts = scripts-front;
}
