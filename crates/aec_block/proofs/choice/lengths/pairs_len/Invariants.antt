use Rattle.std.proofs.Common.{◌≡◌, ◌+◌, ◌*◌, ◌^◌, ◌≤◌, drop}
use Rattle.aec_block.specs.Lengths.{pairs_length}
use Rattle.aec_block.proofs.choice.lengths.pairs_len.Given as goal

abbrev pub invariant-loop-i : goal.invariant-loop-i
invariant-loop-i l = (l.sum + pairs_length (drop (2 * l.i) l.values) ≡ pairs_length l.values) × (l.sum ≤ l.i * 2 ^ 32)
