use Rattle.std.proofs.Common.{◌++◌, ◌*◌, drop}
use Rattle.aec_block.specs.Written.{high_parts, GathersBits}
use Rattle.aec_block.proofs.writing.high_parts.put_high_eights.Given as goal

abbrev pub invariant-loop-i : goal.invariant-loop-i
invariant-loop-i l =
    GathersBits (l.fn.gathered ++ high_parts l.k l.values) l.fn.out (l.gathered ++ high_parts l.k (drop (8 * l.i) l.values)) l.out
