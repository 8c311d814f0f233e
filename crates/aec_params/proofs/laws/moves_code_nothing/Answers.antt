use Rattle.std.proofs.Common.{refl}
use Rattle.aec_params.proofs.MoveLaws.{needed_calls-remove_whole, needed_calls-remove_rest}
use Rattle.aec_params.proofs.laws.moves_code_nothing.Goals as goal

pub returns : goal.returns
returns c = record {
  inserted = λ n old first. refl;
  removed = λ n old first. refl;
  whole = needed_calls-remove_whole;
  to_the_end = needed_calls-remove_rest;
}
