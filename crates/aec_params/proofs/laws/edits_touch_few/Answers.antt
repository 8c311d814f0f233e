use Rattle.std.proofs.Common.{refl}
use Rattle.aec_params.proofs.EditLaws.{touched_intervals-is, length-touched_intervals, opened_intervals-two, opened_intervals-le-needed_calls, needed_calls-append}
use Rattle.aec_params.proofs.laws.edits_touch_few.Goals as goal

pub returns : goal.returns
returns c = record {
  touched = touched_intervals-is;
  count = length-touched_intervals;
  appended = needed_calls-append;
  none = λ n first. refl;
  opened = λ n old edit h stays. (opened_intervals-two n old edit h stays, opened_intervals-le-needed_calls n old edit h stays);
}
