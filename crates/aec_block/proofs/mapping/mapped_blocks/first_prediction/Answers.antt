use Rattle.std.proofs.Common.{rules, w64, FitsSigned, ◌∙◌}
use Rattle.std.proofs.lemmas.Int.{to_z-of_z}
use Rattle.aec_block.proofs.ListMappingLemmas.{offset-held}
use Rattle.aec_block.proofs.mapping.mapped_blocks.first_prediction.Goals as goal

pub offset_above-requires-clause-near : goal.offset_above-requires-clause-near
offset_above-requires-clause-near c =
    let fits : FitsSigned w64 c.args.previous = search rules in
    let least_fits : FitsSigned w64 c.x_min.result = search (rules, c.x_min.type_inv) in
    (offset-held c.args.params.now c.args.previous _ _ c.x_min.ensures.allowed c.requires (to_z-of_z w64 c.args.previous fits)
    (to_z-of_z w64 c.x_min.result least_fits ∙ c.x_min.ensures.value)).1

pub returns-clause-value : goal.returns-clause-value
returns-clause-value c =
    let fits : FitsSigned w64 c.args.previous = search rules in
    let least_fits : FitsSigned w64 c.x_min.result = search (rules, c.x_min.type_inv) in
    c.offset_above.ensures ∙ (offset-held c.args.params.now c.args.previous _ _ c.x_min.ensures.allowed c.requires
    (to_z-of_z w64 c.args.previous fits) (to_z-of_z w64 c.x_min.result least_fits ∙ c.x_min.ensures.value)).2
