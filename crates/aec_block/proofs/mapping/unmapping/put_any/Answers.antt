use Rattle.std.proofs.Common.{rules, arith, length, ◌<◌, ◌≡◌, ap₂, refl, ◌∙◌, w64, FitsSigned}
use Rattle.std.proofs.lemmas.Int.{to_z-of_z}
use Rattle.std.proofs.lemmas.List.{take_all}
use Rattle.std.specs.Prelude.{◌+ℤ◌}
use Rattle.aec_block.proofs.ListMappingLemmas.{sample_at-fits, unmaps_to-start, unmaps_to-offset}
use Rattle.aec_block.proofs.UnmappingLemmas.{one_more}
use Rattle.aec_block.proofs.mapping.unmapping.put_any.Goals as goal

pub loop-i-init : goal.loop-i-init
loop-i-init c = record { unmaps = unmaps_to-start _ _ _; within = c.requires.can.within; len = refl }

pub overflow_add-samples : goal.overflow_add-samples
overflow_add-samples c =
    let fits : FitsSigned w64 c.x_min-least.result = search (rules, c.x_min-least.type_inv) in
    let above_fits : FitsSigned w64 c.from.result = search (rules, c.from.type_inv) in
    sample_at-fits c.args.params.now _ _ c.unmap_by_difference-last.result c.greatest_offset-top.ensures.allowed
    (to_z-of_z w64 c.x_min-least.result fits ∙ c.x_min-least.ensures.value)
    (to_z-of_z w64 c.from.result above_fits ∙ c.from.ensures) (omega (arith, c.unmap_by_difference-last.type_inv))

pub loop-i-preserved : goal.loop-i-preserved
loop-i-preserved c =
    let room : c.loop-i.i < length c.loop-i.samples = omega (arith, c.loop-i-test.true, c.requires.eight, c.requires.can.fits.len, c.loop-i.invariant.len) in
    let fits : FitsSigned w64 c.x_min-least.result = search (rules, c.x_min-least.type_inv) in
    let above_fits : FitsSigned w64 c.from.result = search (rules, c.from.type_inv) in
    let least_is = to_z-of_z w64 c.x_min-least.result fits ∙ c.x_min-least.ensures.value in
    let above_is = to_z-of_z w64 c.from.result above_fits ∙ c.from.ensures in
    let sum_fits = sample_at-fits c.args.params.now _ _ c.unmap_by_difference-last.result c.greatest_offset-top.ensures.allowed least_is above_is
    (omega (arith, c.unmap_by_difference-last.type_inv)) in
    record {
      unmaps = unmaps_to-offset _ _ _ _ _ c.greatest_offset-top.result c.loop-i.last c.unmap_by_difference-last.result _ _ _
          c.greatest_offset-top.ensures.allowed c.requires.can.on c.greatest_offset-top.ensures.value
          (omega (arith, c.greatest_offset-top.ensures.value, c.loop-i.invariant.within))
          c.unmap_by_difference-last.ensures.held (omega (arith, c.loop-i-test.true, c.requires.eight)) c.unmap_by_difference-last.ensures.undone
          (to_z-of_z w64 _ sum_fits ∙ ap₂ ◌+ℤ◌ least_is above_is) (one_more c.loop-i.samples c.loop-i.i _ room) c.loop-i.invariant.unmaps;
      within = omega (arith, c.greatest_offset-top.ensures.value, c.unmap_by_difference-last.ensures.held);
      len = search (rules, c.loop-i.invariant.len);
    }

pub returns : goal.returns
returns c =
    let all : c.loop-i.i ≡ 8 = omega (arith, c.loop-i-test.false, c.loop-i.auto.i-end) in
    record {
      within = c.loop-i.invariant.within;
      items = rw (
        take_all c.loop-i.i c.args.values.now (omega (arith, c.requires.eight, all)),
        take_all c.loop-i.i c.loop-i.samples (omega (arith, c.requires.can.fits.len, c.requires.eight, c.loop-i.invariant.len, all)),
      ) at c.loop-i.invariant.unmaps;
      len = c.loop-i.invariant.len;
    }
