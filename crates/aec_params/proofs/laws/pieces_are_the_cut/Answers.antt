use Rattle.aec_params.proofs.CuttingLaws.{join-pieces_of, AreCut-pieces_of, length-pieces_of, pieces_of-unique}
use Rattle.aec_params.proofs.laws.pieces_are_the_cut.Goals as goal

pub returns : goal.returns
returns g c = record {
  join = join-pieces_of;
  cut = AreCut-pieces_of;
  count = length-pieces_of;
  unique = pieces_of-unique;
}
