use Rattle.aec_params.proofs.CuttingLaws.{pieces_of-join}
use Rattle.aec_params.proofs.laws.whole_pieces_come_first.Goals as goal

pub returns : goal.returns
returns g c = pieces_of-join
