use Rattle.std.proofs.Common.{rules, arith, ◌≤◌, w64, ℕ, FitsSigned, ap, subst, sym, ◌∙◌}
use Rattle.std.proofs.lemmas.Int.{to_z-of_z}
use Rattle.std.specs.List.{AllByRecursion}
use Rattle.aec_block.specs.Offsets.{sample_offset, top_offset, mapped_offsets}
use Rattle.aec_block.proofs.ListMappingLemmas.{offsets-within, mapped_after-offsets}
use Rattle.aec_block.proofs.mapping.mapped_blocks.map_predicted.Goals as goal

pub map_offsets-requires : goal.map_offsets-requires
map_offsets-requires c = (
  omega (arith, c.greatest_offset-top.ensures.value, c.first_prediction-p.ensures.within),
  subst (AllByRecursion (λ x. x ≤ c.greatest_offset-top.result)) (sym c.put_sample_offsets.ensures)
      (offsets-within c.args.params.now c.greatest_offset-top.result c.args.samples.now c.greatest_offset-top.ensures.allowed
      c.greatest_offset-top.ensures.value c.requires.samples.held),
)

pub returns : goal.returns
returns c =
    let s = c.args.params.now in
    let fits : FitsSigned w64 c.args.previous = search rules in
    let p = c.first_prediction-p.ensures.value ∙ ap (sample_offset s) (to_z-of_z w64 c.args.previous fits) in
    c.map_offsets.ensures ∙ ap (λ (top : ℕ). mapped_offsets top c.first_prediction-p.result c.put_sample_offsets.new.values) c.greatest_offset-top.ensures.value
    ∙ ap (λ (q : ℕ). mapped_offsets (top_offset s) q c.put_sample_offsets.new.values) p
    ∙ ap (mapped_offsets (top_offset s) (sample_offset s c.args.previous)) c.put_sample_offsets.ensures
    ∙ sym (mapped_after-offsets s c.args.previous c.args.samples.now c.greatest_offset-top.ensures.allowed c.requires.on c.requires.prediction
    c.requires.samples.held)
