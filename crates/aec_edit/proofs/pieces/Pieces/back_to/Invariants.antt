use Rattle.std.proofs.Common.{◌≡◌}
use Rattle.aec_edit.specs.Pieces.{all_places, IsCut}
use Rattle.aec_edit.proofs.pieces.Pieces.back_to.Given as goal

abbrev pub invariant-loop-self : goal.invariant-loop-self
invariant-loop-self l = record {
  same : all_places l.self ≡ all_places l.initial.self;
  cut : IsCut l.self;
}

abbrev pub decreases-loop-self : goal.decreases-loop-self
decreases-loop-self l = l.self.before.len
