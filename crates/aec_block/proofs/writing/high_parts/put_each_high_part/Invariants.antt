use Rattle.std.proofs.Common.{◌++◌, drop}
use Rattle.aec_block.specs.Written.{high_parts, GathersBits}
use Rattle.aec_block.proofs.writing.high_parts.put_each_high_part.Given as goal

abbrev pub invariant-loop-v : goal.invariant-loop-v
invariant-loop-v l =
    GathersBits (l.fn.gathered ++ high_parts l.k l.values) l.fn.out (l.gathered ++ high_parts l.k (drop l.v-index l.values)) l.out
