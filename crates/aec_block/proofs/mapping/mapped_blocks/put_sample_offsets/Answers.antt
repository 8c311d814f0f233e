use Rattle.std.proofs.Common.{rules, arith, pos, slice_index_or, ℤ, w64, FitsSigned, ◌∙◌}
use Rattle.std.proofs.lemmas.Int.{to_z-of_z}
use Rattle.aec_block.proofs.ListMappingLemmas.{offset-held, held-at, offsets-more}
use Rattle.aec_block.proofs.mapping.mapped_blocks.put_sample_offsets.Goals as goal

pub offset_above-requires-clause-near : goal.offset_above-requires-clause-near
offset_above-requires-clause-near c =
    let x : ℤ = slice_index_or c.args.samples.now c.loop-i.i (pos 0) in
    let fits : FitsSigned w64 (slice_index_or c.args.samples.now c.loop-i.i (pos 0)) = search rules in
    let least_fits : FitsSigned w64 c.x_min-least.result = search (rules, c.x_min-least.type_inv) in
    (offset-held c.args.params.now x _ _ c.x_min-least.ensures.allowed (held-at c.args.params.now c.args.samples.now c.loop-i.i (omega arith) c.requires.held)
    (to_z-of_z w64 x fits) (to_z-of_z w64 c.x_min-least.result least_fits ∙ c.x_min-least.ensures.value)).1

pub loop-i-preserved : goal.loop-i-preserved
loop-i-preserved c =
    let x : ℤ = slice_index_or c.args.samples.now c.loop-i.i (pos 0) in
    let fits : FitsSigned w64 (slice_index_or c.args.samples.now c.loop-i.i (pos 0)) = search rules in
    let least_fits : FitsSigned w64 c.x_min-least.result = search (rules, c.x_min-least.type_inv) in
    let value = c.offset_above.ensures ∙ (offset-held c.args.params.now x _ _ c.x_min-least.ensures.allowed
    (held-at c.args.params.now c.args.samples.now c.loop-i.i (omega arith) c.requires.held)
    (to_z-of_z w64 x fits) (to_z-of_z w64 c.x_min-least.result least_fits ∙ c.x_min-least.ensures.value)).2 in
    offsets-more c.args.params.now c.args.samples.now c.loop-i.i c.loop-i.values c.offset_above.result (omega arith) value c.loop-i.invariant
