use Rattle.aec_params.proofs.MoveLaws.{insertions_open}
use Rattle.aec_params.proofs.RemovalLaws.{removals_open}
use Rattle.aec_params.proofs.laws.moves_open_few.Goals as goal

pub returns : goal.returns
returns c = record { inserted = insertions_open; removed = removals_open }
