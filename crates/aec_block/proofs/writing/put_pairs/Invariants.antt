use Rattle.std.proofs.Common.{◌++◌, ◌*◌, ◌≤◌, drop, length}
use Rattle.aec_params.specs.CodedDataSets.{pair_bits}
use Rattle.aec_block.specs.Written.{GathersBits}
use Rattle.aec_block.proofs.writing.put_pairs.Given as goal

abbrev pub invariant-loop-i : goal.invariant-loop-i
invariant-loop-i l =
    GathersBits (l.fn.gathered ++ pair_bits l.values) l.fn.out (l.gathered ++ pair_bits (drop (2 * l.i) l.values)) l.out
    × (length (pair_bits (drop (2 * l.i) l.values)) ≤ length (pair_bits l.values))
