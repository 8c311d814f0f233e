use Rattle.aec_params.proofs.MoveLaws.{needed_calls-insert, needed_calls-remove, opened_intervals-insert}
use Rattle.aec_params.proofs.RemovalLaws.{opened_intervals-remove}
use Rattle.aec_params.proofs.laws.moves_by_length.Goals as goal

pub returns : goal.returns
returns c = record {
  inserted = needed_calls-insert;
  removed = needed_calls-remove;
  opened_by_insertion = opened_intervals-insert;
  opened_by_removal = opened_intervals-remove;
}
