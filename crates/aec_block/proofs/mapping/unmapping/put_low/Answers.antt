use Rattle.std.proofs.Common.{rules, arith, length, ◌<◌, ◌≡◌, ap₂, refl, ◌∙◌, w64, FitsSigned}
use Rattle.std.proofs.lemmas.Int.{to_z-of_z}
use Rattle.std.proofs.lemmas.List.{take_all}
use Rattle.std.specs.Prelude.{◌+ℤ◌}
use Rattle.aec_block.specs.Offsets.{top_offset}
use Rattle.aec_block.proofs.ListMappingLemmas.{sample_at-fits, unmaps_to-start, unmaps_to-offset}
use Rattle.aec_block.proofs.LowLemmas.{low_offsets-next}
use Rattle.aec_block.proofs.UnmappingLemmas.{one_more}
use Rattle.aec_block.proofs.mapping.unmapping.put_low.Goals as goal

pub loop-i-init : goal.loop-i-init
loop-i-init c = record { unmaps = unmaps_to-start _ _ _; within = c.requires.can.within; rest = c.requires.low; len = refl }

pub loop-i-preserved : goal.loop-i-preserved
loop-i-preserved c =
    let here : c.loop-i.i < length c.args.values.now = omega (arith, c.loop-i-test.true, c.requires.eight) in
    let room : c.loop-i.i < length c.loop-i.samples = omega (arith, here, c.requires.can.fits.len, c.loop-i.invariant.len) in
    let step = low_offsets-next c.args.params.now c.loop-i.last c.unmap_low-last.result c.args.values.now c.loop-i.i c.requires.allowed here
    c.unmap_low-last.ensures c.loop-i.invariant.rest in
    let above_fits : FitsSigned w64 c.from.result = search (rules, c.from.type_inv) in
    let least_is = to_z-of_z w64 c.args.least c.ranges.least ∙ c.requires.least in
    let above_is = to_z-of_z w64 c.from.result above_fits ∙ c.from.ensures in
    let sum_fits = sample_at-fits c.args.params.now _ _ c.unmap_low-last.result c.requires.allowed least_is above_is step.1 in
    record {
      unmaps = unmaps_to-offset _ _ _ _ _ (top_offset c.args.params.now) c.loop-i.last c.unmap_low-last.result _ _ _
          c.requires.allowed c.requires.can.on refl c.loop-i.invariant.within step.0 here step.2
          (to_z-of_z w64 _ sum_fits ∙ ap₂ ◌+ℤ◌ least_is above_is)
          (one_more c.loop-i.samples c.loop-i.i _ room) c.loop-i.invariant.unmaps;
      within = step.0;
      rest = step.3;
      len = search (rules, c.loop-i.invariant.len);
    }

pub returns : goal.returns
returns c =
    let all : c.loop-i.i ≡ 8 = omega (arith, c.loop-i-test.false, c.loop-i.auto.i-end) in
    record {
      within = c.loop-i.invariant.within;
      items = rw (
        take_all c.loop-i.i c.args.values.now (omega (arith, c.requires.eight, all)),
        take_all c.loop-i.i c.loop-i.samples (omega (arith, c.requires.can.fits.len, c.requires.eight, c.loop-i.invariant.len, all)),
      ) at c.loop-i.invariant.unmaps;
      len = c.loop-i.invariant.len;
    }
