use Rattle.std.proofs.Common.{◌≡◌, ◌+◌, ◌-◌, ◌≤◌, ◌++◌, take, drop}
use Rattle.aec_edit.proofs.workspace.rebuilding.copy_bits.Given as goal

abbrev pub invariant-loop-left : goal.invariant-loop-left
invariant-loop-left l = record {
  place : l.reader.pos + l.left ≡ l.stop;
  least : l.start ≤ l.reader.pos;
  list : l.reader.list ≡ l.from.list;
  copied : l.out.list ≡ l.initial.out.list ++ take (l.reader.pos - l.start) (drop l.start l.from.list);
}

abbrev pub decreases-loop-left : goal.decreases-loop-left
decreases-loop-left l = l.left
