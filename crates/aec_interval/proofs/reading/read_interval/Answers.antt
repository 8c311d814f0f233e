use Rattle.std.proofs.Common.{rules, refl, sym, ◌∙◌, arith, vec_len, vec_capacity}
use Rattle.aec_interval.specs.Reached.{RefusesUpTo}
use Rattle.aec_interval.proofs.ReadNextLemmas.{reached-start}
use Rattle.aec_interval.proofs.ReadIntervalLemmas.{place, inside-begun, no_room-refuses, no_room-untested, by_its_end, by_block_end, comes-further, len-further, gone-over, len-within}
use Rattle.aec_interval.proofs.RefusalLemmas.{of_refusal}
use Rattle.aec_interval.proofs.reading.read_interval.Goals as goal

pub loop-behind-init : goal.loop-behind-init
loop-behind-init c = record {
  reached = reached-start c.args.params.now _ _ _ _ _ _ _ c.requires.begins c.requires.empty;
  list = refl;
  inside = inside-begun _ _ _ _ _ _ _ c.interval.ensures.allowed (omega arith) c.requires.wanted;
  len = grind arith;
  capacity = omega arith;
}

pub returns-in_err-behind-clause-refuses : goal.returns-in_err-behind-clause-refuses
returns-in_err-behind-clause-refuses c =
    by_its_end _ _ _ _ _ _ _ _ c.loop-behind.invariant.inside
    (λ bits end fault. RefusesUpTo c.args.params.now c.args.wanted.count c.args.wanted.limit bits c.args.wanted.first c.args.wanted.start end fault)
    _ _ _ c.loop-behind.invariant.list c.from_residual.ensures.1 c.in_err-behind.ensures.refuses

pub returns-in_err-behind-clause-full : goal.returns-in_err-behind-clause-full
returns-in_err-behind-clause-full c =
    of_refusal _ _ _ c.from_residual.ensures.1
    (no_room-refuses _ _ _ _ _ _ _ _ c.loop-behind.invariant.inside (vec_len c.loop-behind.samples) _ _ _ c.loop-behind.invariant.len
    c.loop-behind.invariant.capacity c.in_err-behind.ensures.full)

pub returns-in_err-block-clause-refuses : goal.returns-in_err-block-clause-refuses
returns-in_err-block-clause-refuses c =
    by_block_end _ _ _ _ _ _ _ _ c.loop-behind.invariant.inside
    (λ bits end fault. RefusesUpTo c.args.params.now c.args.wanted.count c.args.wanted.limit bits c.args.wanted.first c.args.wanted.start end fault)
    _ _ _ (c.read_untested_blocks.ensures.list ∙ (c.read_next.ensures.list ∙ c.loop-behind.invariant.list)) c.from_residual-in_err-block.ensures.1
    c.in_err-block.ensures.refuses

pub returns-in_err-block-clause-full : goal.returns-in_err-block-clause-full
returns-in_err-block-clause-full c =
    of_refusal _ _ _ c.from_residual-in_err-block.ensures.1
    (λ memory. no_room-untested _ _ _ _ _ _ _ _ c.loop-behind.invariant.inside c.in_ok-behind.behind (vec_len c.loop-behind.samples)
    (vec_len c.read_next.new.samples) (vec_capacity c.read_next.new.samples) (vec_capacity c.args.samples.now) c.in_ok-behind.ensures.next
    c.loop-behind.invariant.len c.in_ok-behind.ensures.len (omega arith) c.in_err-block.ensures.full)

pub returns-then-not-goes_on-clause-over : goal.returns-then-not-goes_on-clause-over
returns-then-not-goes_on-clause-over c =
    let single = c.in_ok-block.ensures in
    gone-over _ _ _ _ _ _ _ _ c.loop-behind.invariant.inside _
    (comes-further _ _ _ _ _ _ _ _ c.loop-behind.invariant.inside _ _ c.in_ok-behind.ensures.next single.forward single.within
    (single.few c.in_ok-behind.ensures.next.few)) _ _
    (sym c.goes_on.ensures ∙ c.if-not-goes_on.true)

pub returns-then-not-goes_on-clause-len : goal.returns-then-not-goes_on-clause-len
returns-then-not-goes_on-clause-len c =
    let single = c.in_ok-block.ensures in
    let inside = c.loop-behind.invariant.inside in
    let next = c.in_ok-behind.ensures.next in
    (len-within _ _ _ _ _ _ _ _ inside _ (comes-further _ _ _ _ _ _ _ _ inside _ _ next single.forward single.within (single.few next.few))
    (vec_len c.loop-behind.samples) _ c.loop-behind.invariant.len
    (len-further _ _ _ _ _ _ _ _ inside _ _ next single.forward single.within _ _ _ c.in_ok-behind.ensures.len single.len)).1

pub read_next-requires-clause-place : goal.read_next-requires-clause-place
read_next-requires-clause-place c = sym (place _ _ _ _ _ _ _ _ c.loop-behind.invariant.inside)

pub loop-behind-preserved : goal.loop-behind-preserved
loop-behind-preserved c =
    let single = c.in_ok-block.ensures in
    let inside = c.loop-behind.invariant.inside in
    let next = c.in_ok-behind.ensures.next in
    record {
      reached = search rules;
      list = search rules;
      inside = search rules;
      len = (len-within _ _ _ _ _ _ _ _ inside _ (comes-further _ _ _ _ _ _ _ _ inside _ _ next single.forward single.within (single.few next.few))
          (vec_len c.loop-behind.samples) _ c.loop-behind.invariant.len
          (len-further _ _ _ _ _ _ _ _ inside _ _ next single.forward single.within _ _ _ c.in_ok-behind.ensures.len single.len)).0;
      capacity = omega arith;
    }
