use Rattle.std.proofs.Common.{◌≡◌, length, take, map}
use Rattle.aec_block.specs.Offsets.{sample_offset}
use Rattle.aec_block.proofs.mapping.mapped_blocks.put_sample_offsets.Given as goal

abbrev pub invariant-loop-i : goal.invariant-loop-i
invariant-loop-i l = (take l.i l.values ≡ map (sample_offset l.params) (take l.i l.samples)) × (length l.samples ≡ length l.values)
