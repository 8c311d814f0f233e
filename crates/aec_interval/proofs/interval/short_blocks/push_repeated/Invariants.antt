use Rattle.std.proofs.Common.{◌≡◌, ◌+◌, ◌++◌, length, replicate}
use Rattle.aec_interval.proofs.interval.short_blocks.push_repeated.Given as goal

abbrev pub invariant-loop-i : goal.invariant-loop-i
invariant-loop-i l = record {
  values : l.block.values ≡ l.initial.block.values ++ replicate l.i l.value;
  len : length l.block.values ≡ length l.initial.block.values + l.i;
  reference : l.block.reference ≡ l.initial.block.reference;
}
