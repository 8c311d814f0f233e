use Rattle.std.proofs.Common.{◌*◌}
use Rattle.aec_block.proofs.ListMappingLemmas.{IsMappedSoFar}
use Rattle.aec_block.proofs.mapping.mapped_blocks.map_by_eights.Given as goal

abbrev pub invariant-loop-i : goal.invariant-loop-i
invariant-loop-i l = IsMappedSoFar l.top l.previous l.p (8 * l.i) l.fn.values l.values
