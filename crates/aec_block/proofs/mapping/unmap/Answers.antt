use Rattle.std.proofs.Common.{rules, FitsSigned, w64}
use Rattle.std.proofs.lemmas.Int.{to_z-of_z}
use Rattle.aec_block.proofs.MappingLemmas.{mapped_value-code, only-offset, only-pattern, mapping}
use Rattle.aec_block.proofs.mapping.unmap.Goals as goal

pub returns-then-preprocess : goal.returns-then-preprocess
returns-then-preprocess c =
    let fits_p = c.ranges.p in
    let fits_x : FitsSigned w64 c.sample_at.result = search rules in
    let at_p = simp to_z-of_z at c.offset_of.ensures.value in
    record {
      held = search rules;
      undone = simp to_z-of_z (mapped_value-code c.args.params.now c.args.p c.sample_at.result _ _ _ _ c.greatest_offset-top.ensures.allowed (cc)
          c.requires.prediction c.sample_at.ensures.held c.greatest_offset-top.ensures.value at_p (cc) c.unmap_offset-offset.ensures.undone);
      only = λ x held is. simp to_z-of_z (only-offset c.args.params.now c.args.p x c.sample_at.result _ _ _ _ c.greatest_offset-top.ensures.allowed
          (cc) c.requires.prediction held c.sample_at.ensures.held c.greatest_offset-top.ensures.value at_p c.sample_at.ensures.value
          c.unmap_offset-offset.ensures.only is);
    }

pub returns-else-preprocess : goal.returns-else-preprocess
returns-else-preprocess c =
    let fits_x : FitsSigned w64 c.value.result = search rules in
    record {
      held = search rules;
      undone = search (rules, mapping);
      only = λ x held is. simp to_z-of_z (only-pattern c.args.params.now c.args.p x c.value.result c.args.m c.greatest_offset-top.ensures.allowed
          (cc) held c.value.ensures.held c.value.ensures.undone is);
    }
