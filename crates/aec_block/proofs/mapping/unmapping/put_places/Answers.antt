use Rattle.std.proofs.Common.{rules, get_or, arith, length, ◌<◌, ◌≡◌, ap₂, refl, ◌∙◌, w64, FitsSigned}
use Rattle.std.proofs.lemmas.Int.{to_z-of_z}
use Rattle.std.proofs.lemmas.List.{take_all}
use Rattle.std.specs.Prelude.{◌+ℤ◌}
use Rattle.aec_block.specs.Offsets.{top_offset}
use Rattle.aec_block.proofs.ListMappingLemmas.{sample_at-fits, unmaps_to-start, unmaps_to-offset}
use Rattle.aec_block.proofs.NearLemmas.{AreUnmapped-next, offset-fits}
use Rattle.aec_block.proofs.UnmappingLemmas.{one_more}
use Rattle.aec_block.proofs.mapping.unmapping.put_places.Goals as goal

pub loop-i-init : goal.loop-i-init
loop-i-init c = record { unmaps = unmaps_to-start _ _ _; within = c.requires.can.within; rest = c.requires.places; len = refl }

pub overflow_add-samples : goal.overflow_add-samples
overflow_add-samples c =
    let here : c.loop-i.i < length c.args.values.now = omega (arith, c.loop-i-test.true, c.requires.eight) in
    let step = AreUnmapped-next (top_offset c.args.params.now) c.loop-i.place c.args.values.now c.args.places.now c.loop-i.i here c.loop-i.invariant.rest in
    let fits_next = offset-fits c.args.params.now _ c.x_min-least.ensures.allowed step.0 in
    let fits : FitsSigned w64 c.x_min-least.result = search (rules, c.x_min-least.type_inv) in
    let above_fits : FitsSigned w64 c.from.result = search (rules, c.from.type_inv) in
    sample_at-fits c.args.params.now _ _ (get_or c.args.places.now c.loop-i.i 0) c.x_min-least.ensures.allowed
    (to_z-of_z w64 c.x_min-least.result fits ∙ c.x_min-least.ensures.value)
    (to_z-of_z w64 c.from.result above_fits ∙ c.from.ensures) fits_next

pub loop-i-preserved : goal.loop-i-preserved
loop-i-preserved c =
    let here : c.loop-i.i < length c.args.values.now = omega (arith, c.loop-i-test.true, c.requires.eight) in
    let room : c.loop-i.i < length c.loop-i.samples = omega (arith, here, c.requires.can.fits.len, c.loop-i.invariant.len) in
    let step = AreUnmapped-next (top_offset c.args.params.now) c.loop-i.place c.args.values.now c.args.places.now c.loop-i.i here c.loop-i.invariant.rest in
    let fits_next = offset-fits c.args.params.now _ c.x_min-least.ensures.allowed step.0 in
    let above_fits : FitsSigned w64 c.from.result = search (rules, c.from.type_inv) in
    let least_is = to_z-of_z w64 c.x_min-least.result (search (rules, c.x_min-least.type_inv)) ∙ c.x_min-least.ensures.value in
    let above_is = to_z-of_z w64 c.from.result above_fits ∙ c.from.ensures in
    let sum_fits = sample_at-fits c.args.params.now _ _ (get_or c.args.places.now c.loop-i.i 0) c.x_min-least.ensures.allowed least_is above_is fits_next in
    record {
      unmaps = unmaps_to-offset _ _ _ _ _ (top_offset c.args.params.now) c.loop-i.place (get_or c.args.places.now c.loop-i.i 0) _ _ _
          c.x_min-least.ensures.allowed c.requires.can.on refl c.loop-i.invariant.within step.0 here step.1
          (to_z-of_z w64 _ sum_fits ∙ ap₂ ◌+ℤ◌ least_is above_is)
          (one_more c.loop-i.samples c.loop-i.i _ room) c.loop-i.invariant.unmaps;
      within = step.0;
      rest = step.2;
      len = search (rules, c.loop-i.invariant.len);
    }

pub returns : goal.returns
returns c =
    let all : c.loop-i.i ≡ 8 = omega (arith, c.loop-i-test.false, c.loop-i.auto.i-end) in
    record {
      within = c.loop-i.invariant.within;
      items = rw (
        take_all c.loop-i.i c.args.values.now (omega (arith, c.requires.eight, all)),
        take_all c.loop-i.i c.loop-i.samples (omega (arith, c.requires.can.fits.len, c.requires.eight, c.loop-i.invariant.len, all)),
      ) at c.loop-i.invariant.unmaps;
      len = c.loop-i.invariant.len;
    }
