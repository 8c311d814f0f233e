use Rattle.std.proofs.Common.{rules, pos, slice_index_or, ℤ, w64, FitsSigned, ◌∙◌}
use Rattle.std.proofs.lemmas.Int.{to_z-of_z}
use Rattle.aec_block.proofs.ListMappingLemmas.{mapped_after-first}
use Rattle.aec_block.proofs.mapping.mapped_blocks.map_first.Goals as goal

pub returns : goal.returns
returns c =
    let x : ℤ = slice_index_or c.args.samples.now 0 (pos 0) in
    let fits : FitsSigned w64 (slice_index_or c.args.samples.now 0 (pos 0)) = search rules in
    c.map_list.ensures ∙ mapped_after-first c.args.params.now _ c.args.samples.now c.known_allowed.ensures c.requires.some (to_z-of_z w64 x fits)
    c.requires.samples.held
