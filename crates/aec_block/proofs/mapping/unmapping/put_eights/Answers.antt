use Rattle.std.proofs.Common.{rules, ◌≡◌, ◌≤◌, ◌+◌, ◌*◌, ◌/◌, ◌-◌, ℕ, [], pos, length, take, subst, refl, arith}
use Rattle.std.specs.Prelude.{◌+ℤ◌}
use Rattle.aec_params.specs.Params.{x_min}
use Rattle.aec_block.specs.Unmapping.{UnmapsTo}
use Rattle.aec_block.proofs.ListMappingLemmas.{unmaps_to-start, length-take_equal}
use Rattle.aec_block.proofs.NearLemmas.{take-eight}
use Rattle.aec_block.proofs.UnmappingLemmas.{part_more}
use Rattle.aec_block.proofs.mapping.unmapping.put_eights.Goals as goal

pub loop-i-init : goal.loop-i-init
loop-i-init c = record { unmaps = unmaps_to-start _ _ _; within = c.requires.within; len = refl }

pub loop-i-preserved : goal.loop-i-preserved
loop-i-preserved c =
    let s = c.args.params.now in
    let i = c.loop-i.i in
    let eight : 8 * i + 8 - 8 * i ≡ 8 = omega arith in
    let within : 8 * i + (8 * i + 8 - 8 * i) ≤ length c.loop-i.samples = omega (arith, c.loop-i-test.true, c.requires.fits.len, c.loop-i.invariant.len) in
    record {
      unmaps = part_more s _ _ _ _ _ _ c.loop-i.samples c.put_eight-last.new.samples (8 * i) (8 * i + 8 - 8 * i) (8 * (i + 1))
          (take-eight c.args.values.now i) (omega (arith, eight)) within (search rules) c.loop-i.invariant.unmaps c.put_eight-last.ensures.items;
      within = c.put_eight-last.ensures.within;
      len = search rules;
    }

pub returns-clause-front : goal.returns-clause-front
returns-clause-front c =
    let s = c.args.params.now in
    let all : c.loop-i.i ≡ length c.args.values.now / 8 = omega (arith, c.loop-i-test.false, c.loop-i.auto.i-end) in
    let front = subst (λ (n : ℕ). UnmapsTo s (x_min s +ℤ pos c.args.offset) (x_min s +ℤ pos c.loop-i.last) (take (8 * n) c.args.values.now) []
    (take (8 * n) c.loop-i.samples))
    all c.loop-i.invariant.unmaps in
    record { within = c.loop-i.invariant.within; items = front; len = length-take_equal _ _ _ c.loop-i.invariant.len }
