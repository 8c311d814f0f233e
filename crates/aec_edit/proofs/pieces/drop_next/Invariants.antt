use Rattle.std.proofs.Common.{◌≡◌, ◌-◌, ◌≤◌, drop}
use Rattle.aec_edit.specs.Pieces.{places_after}
use Rattle.aec_edit.proofs.pieces.drop_next.Given as goal

abbrev pub invariant-loop-left : goal.invariant-loop-left
invariant-loop-left l = record {
  few : l.left ≤ l.len;
  rest : places_after l.after.items ≡ drop (l.len - l.left) (places_after l.initial.after.items);
}

abbrev pub decreases-loop-left : goal.decreases-loop-left
decreases-loop-left l = l.left
