use Rattle.std.proofs.Common.{refl, sym, ◌∙◌, arith}
use Rattle.aec_interval.specs.Skipping.{IsFaultBefore}
use Rattle.aec_interval.proofs.ReadIntervalLemmas.{place, inside-begun, by_its_end, gone-over}
use Rattle.aec_interval.proofs.SkippingLemmas.{led-start}
use Rattle.aec_interval.proofs.reading.skipping.skip_interval.Goals as goal

pub loop-block-init : goal.loop-block-init
loop-block-init c = record {
  led = led-start c.args.params.now _ _ _ _ _ _ c.requires.begins;
  list = refl;
  inside = inside-begun _ _ _ _ _ _ _ c.interval.ensures.allowed (omega arith) c.requires.wanted;
}

pub returns-in_err-block-clause-refuses : goal.returns-in_err-block-clause-refuses
returns-in_err-block-clause-refuses c =
    by_its_end _ _ _ _ _ _ _ _ c.loop-block.invariant.inside
    (λ bits end fault. IsFaultBefore c.args.params.now c.args.wanted.count c.args.wanted.limit bits c.args.wanted.first c.args.wanted.start end fault)
    _ _ _ c.loop-block.invariant.list c.from_residual.ensures.1 c.in_err-block.ensures.refuses

pub returns-then-not-goes_on-clause-over : goal.returns-then-not-goes_on-clause-over
returns-then-not-goes_on-clause-over c =
    gone-over _ _ _ _ _ _ _ _ c.loop-block.invariant.inside _ c.in_ok-block.ensures.next _ _ (sym c.goes_on.ensures ∙ c.if-not-goes_on.true)

pub skip_next-requires-clause-place : goal.skip_next-requires-clause-place
skip_next-requires-clause-place c = sym (place _ _ _ _ _ _ _ _ c.loop-block.invariant.inside)
