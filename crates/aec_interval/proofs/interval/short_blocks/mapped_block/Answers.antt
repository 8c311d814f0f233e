use Rattle.std.proofs.Common.{rules, ℤ, pos, slice_index_or, unwrap_or, w64, FitsSigned, to_z, of_z, ap, ◌∙◌}
use Rattle.std.proofs.lemmas.Int.{to_z-of_z}
use Rattle.std.proofs.lemmas.List.{take_rest}
use Rattle.aec_interval.proofs.ShortBlockLemmas.{mapped-whole}
use Rattle.aec_interval.proofs.interval.short_blocks.mapped_block.Goals as goal

pub returns-clause-values : goal.returns-clause-values
returns-clause-values c =
    let s = c.args.params.now in
    let v = c.args.samples.now in
    let start = c.new-block.result.values in
    let fits : FitsSigned w64 c.unwrap_or-first.result = search (rules, c.unwrap_or-first.type_inv) in
    let p : ℤ = to_z w64 (of_z w64 c.unwrap_or-first.result) in
    let x : ℤ = slice_index_or c.args.samples.now 0 (pos 0) in
    let first_fits : FitsSigned w64 (slice_index_or c.args.samples.now 0 (pos 0)) = search rules in
    let first = to_z-of_z w64 c.unwrap_or-first.result fits ∙ c.unwrap_or-first.ensures ∙ ap (unwrap_or c.args.previous) (to_z-of_z w64 x first_fits) in
    mapped-whole s c.args.previous v p c.reference_after.result start _ c.len.result c.requires.block.allowed c.requires.block.some first
    c.requires.block.samples.held c.reference_after.ensures c.new-block.ensures.values c.len.ensures.value (rw (c.push_mapped.ensures, take_rest))
