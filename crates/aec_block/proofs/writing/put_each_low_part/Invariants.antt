use Rattle.std.proofs.Common.{◌++◌, drop}
use Rattle.aec_block.specs.Written.{low_parts, GathersBits}
use Rattle.aec_block.proofs.writing.put_each_low_part.Given as goal

abbrev pub invariant-loop-v : goal.invariant-loop-v
invariant-loop-v l =
    GathersBits (l.fn.gathered ++ low_parts l.width l.values) l.fn.out (l.gathered ++ low_parts l.width (drop l.v-index l.values)) l.out
