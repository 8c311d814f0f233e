use Rattle.aec_edit.specs.Pieces.{IsTaken}
use Rattle.aec_edit.proofs.pieces.pop_piece.Given as goal

abbrev pub invariant-loop-after : goal.invariant-loop-after
invariant-loop-after l = IsTaken l.piece l.initial.after.items l.after.items

abbrev pub decreases-loop-after : goal.decreases-loop-after
decreases-loop-after l = l.after.len
