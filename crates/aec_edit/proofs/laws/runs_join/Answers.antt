use Rattle.std.proofs.Common.{refl}
use Rattle.aec_edit.proofs.RunLemmas.{AnswersAll-append, all_left-append}
use Rattle.aec_edit.proofs.laws.runs_join.Goals as goal

pub returns : goal.returns
returns c = record {
  answers = AnswersAll-append;
  samples = all_left-append;
  one = λ f limit s calls e outcome after h. (after, h, refl);
}
