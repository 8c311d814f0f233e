use Rattle.std.proofs.Common.{arith, rules, ◌≡◌, ◌+◌, ◌-◌, ◌%◌, ◌<◌, refl, ◌∙◌}
use Rattle.std.specs.Slice.Iter.{chunks_rest}
use Rattle.std.proofs.lemmas.Result.{on_ok_weaker}
use Rattle.std.proofs.lemmas.List.{take_all}
use Rattle.aec_params.proofs.SettingLaws.{block_size-positive, interval-positive}
use Rattle.aec_interval.proofs.PendingLemmas.{kept-append}
use Rattle.aec_interval.proofs.SegmentLemmas.{piece_taken, nothing_left, kept-trans}
use Rattle.aec_interval.proofs.OneLoopLemmas.{at-next, at-inside, at-first, at-last, at-segment_end, none_of_segment, at-closed, none_left}
use Rattle.aec_interval.proofs.interval.write_known_intervals.Goals as goal

pub loop-chunk-init : goal.loop-chunk-init
loop-chunk-init g c =
    let s = c.args.params.now in
    let allowed = c.interval-interval.ensures.allowed in
    let all : chunks_rest c.into_iter-chunk-iterator.result ≡ c.args.samples.now = search rules in
    let old = c.args.out.now.list in
    record {
      can_next = search (rules, block_size-positive s allowed);
      is_finite = tt;
      size = search rules;
      inside = interval-positive s allowed;
      is_run = record { few = omega arith; reference = tt };
      so_far = rw all (at-first s allowed c.len-start.ensures.value (take_all _ old (omega arith)) c.requires.held refl);
    }

pub loop-chunk-preserved-then-segment_goes_on : goal.loop-chunk-preserved-then-segment_goes_on
loop-chunk-preserved-then-segment_goes_on g c =
    let s = c.args.params.now in let at = c.loop-chunk.invariant in
    let positive = block_size-positive s c.interval-interval.ensures.allowed in
    let steps = c.in-Some.ensures.steps in
    let piece = piece_taken s.block_size _ c.in-Some.chunk.now _ positive steps.1.0 (rw (steps.1.1, at.size)) steps.1.2 in
    let next = at-next s c.loop-chunk.place positive at.inside at.so_far steps.1.0 piece c.in_ok-run.ensures.kept c.in_ok-run.ensures.ok in
    let here = c.segment_goes_on.ensures.inside c.if-segment_goes_on.true in
    record {
      can_next = omega arith;
      is_finite = tt;
      size = steps.0 ∙ at.size;
      inside = omega arith;
      is_run = record { few = omega (arith, c.in_ok-run.ensures.run.few, at.is_run.few, here.1); reference = c.in_ok-run.ensures.run.reference };
      so_far = at-inside s c.loop-chunk.place _ _ piece.some (omega arith) (c.copied-preceding.ensures ∙ c.last.ensures.value) next;
    }

pub loop-chunk-preserved-then-place-interval : goal.loop-chunk-preserved-then-place-interval
loop-chunk-preserved-then-place-interval g c =
    let s = c.args.params.now in let at = c.loop-chunk.invariant in
    let positive = block_size-positive s c.interval-interval.ensures.allowed in
    let steps = c.in-Some.ensures.steps in
    let piece = piece_taken s.block_size _ c.in-Some.chunk.now _ positive steps.1.0 (rw (steps.1.1, at.size)) steps.1.2 in
    let next = at-next s c.loop-chunk.place positive at.inside at.so_far steps.1.0 piece c.in_ok-run.ensures.kept c.in_ok-run.ensures.ok in
    let inside : c.loop-chunk.place + 1 < s.interval = omega arith in
    let end = c.segment_goes_on.ensures.end c.if-segment_goes_on.false (omega arith) in
    let whole : 63 - c.loop-chunk.place % 64 ≡ 0 = omega arith in
    record {
      can_next = omega arith;
      is_finite = tt;
      size = steps.0 ∙ at.size;
      inside = inside;
      is_run = record { few = omega arith; reference = tt };
      so_far = at-inside s c.loop-chunk.place _ _ piece.some (omega arith)
          (c.copied-preceding-then-place-interval.ensures ∙ c.last-then-place-interval.ensures.value)
          (at-segment_end next (none_of_segment s _ _ _ whole) c.in_ok-write.ensures.ok);
    }

pub returns-in_err-end_interval : goal.returns-in_err-end_interval
returns-in_err-end_interval g c =
    record {
      ok = search rules;
      kept = kept-trans _ _ _ (kept-trans _ _ _ c.loop-chunk.invariant.so_far.kept c.in_ok-run.ensures.kept)
          (kept-trans _ _ _ (kept-append _ _ _ c.in_ok-write.ensures.ok) c.end_interval.ensures.kept);
      fault = search rules;
    }

pub loop-chunk-preserved : goal.loop-chunk-preserved
loop-chunk-preserved g c =
    let s = c.args.params.now in let at = c.loop-chunk.invariant in
    let positive = block_size-positive s c.interval-interval.ensures.allowed in
    let steps = c.in-Some.ensures.steps in
    let piece = piece_taken s.block_size _ c.in-Some.chunk.now _ positive steps.1.0 (rw (steps.1.1, at.size)) steps.1.2 in
    let next = at-next s c.loop-chunk.place positive at.inside at.so_far steps.1.0 piece c.in_ok-run.ensures.kept c.in_ok-run.ensures.ok in
    let none = none_left s.block_size s.interval (c.loop-chunk.place + 1) (chunks_rest c.next.new.self) (omega arith) in
    let left = at-closed positive next none.0 none.1 c.in_ok-write.ensures.ok c.in_ok-end_interval.ensures.ok in
    let kept = kept-trans _ _ _ next.kept (kept-trans _ _ _ (kept-append _ _ _ c.in_ok-write.ensures.ok) c.in_ok-end_interval.ensures.kept) in
    record {
      can_next = omega arith;
      is_finite = tt;
      size = steps.0 ∙ at.size;
      inside = interval-positive s c.interval-interval.ensures.allowed;
      is_run = record { few = omega arith; reference = tt };
      so_far = at-first s c.interval-interval.ensures.allowed c.len-start-in-loop-chunk.ensures.value kept next.held left;
    }

pub returns : goal.returns
returns g c =
    let s = c.args.params.now in let at = c.loop-chunk.invariant in
    let positive = block_size-positive s c.interval-interval.ensures.allowed in
    record {
      ok = on_ok_weaker c.end_interval-2.result (λ padded. at-last positive (interval-positive s c.interval-interval.ensures.allowed) at.so_far
          (nothing_left _ c.in-None.ensures.steps.1.0) c.in_ok-write-2.ensures.ok padded)
          c.end_interval-2.ensures.ok;
      kept = kept-trans _ _ _ c.loop-chunk.invariant.so_far.kept
          (kept-trans _ _ _ (kept-append _ _ _ c.in_ok-write-2.ensures.ok) c.end_interval-2.ensures.kept);
      fault = c.end_interval-2.ensures.fault;
    }
