use Rattle.std.proofs.Common.{◌++◌, ◌*◌, drop}
use Rattle.aec_block.specs.Written.{low_parts, GathersBits}
use Rattle.aec_block.proofs.writing.put_low_groups.Given as goal

abbrev pub invariant-loop-i : goal.invariant-loop-i
invariant-loop-i g l =
    GathersBits (l.fn.gathered ++ low_parts l.width l.values) l.fn.out (l.gathered ++ low_parts l.width (drop (g.row.N * l.i) l.values)) l.out
