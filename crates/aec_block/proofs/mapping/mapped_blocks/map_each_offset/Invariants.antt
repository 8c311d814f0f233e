use Rattle.aec_block.proofs.ListMappingLemmas.{IsMappedSoFar}
use Rattle.aec_block.proofs.mapping.mapped_blocks.map_each_offset.Given as goal

abbrev pub invariant-loop-i : goal.invariant-loop-i
invariant-loop-i l = IsMappedSoFar l.top l.previous l.p l.i l.fn.values l.values
