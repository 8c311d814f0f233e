use Rattle.std.proofs.Common.{◌++◌, sym, subst, ap, ◌∙◌, arith}
use Rattle.std.proofs.lemmas.Result.{err_from_is_err_and}
use Rattle.aec_params.specs.Params.{IsAllowed}
use Rattle.aec_engine.specs.ReadingTwice.{ReadsOn}
use Rattle.aec_engine.proofs.ReadingOnLemmas.{reads_one, reads_more, lacks_first, lacks_later, lacks_err, one_at_once, more_at_once}
use Rattle.aec_engine.proofs.engine.loading.next_intervals.Goals as goal

pub returns-in_err-next-clause-refuses : goal.returns-in_err-next-clause-refuses
returns-in_err-next-clause-refuses c =
    let exit = err_from_is_err_and c.from_residual.result c.from_residual.ensures.1 in
    lacks_err _ exit.0 c.in_err-next.field-0.0 c.args.reader.now exit.1 exit.2
    (lacks_first c.args.reader.now c.in_err-next.field-0.0 (subst IsAllowed (sym c.requires) c.interval_len.ensures.allowed) c.in_err-next.ensures.refuses)

pub loop-reader-init : goal.loop-reader-init
loop-reader-init c = record {
  reads = reads_one c.args.reader.now c.next.new.self c.next.new.samples.items (subst IsAllowed (sym c.requires) c.interval_len.ensures.allowed)
      (c.in_ok-next.ensures.read c.if-not-branch.false);
  few = c.next.ensures.few;
  at_once = one_at_once c.args.reader.now c.next.new.self c.args.params.now c.next.new.samples.items c.requires
      (c.in_ok-next.ensures.read c.if-not-branch.false);
  ends = c.next.ensures.ends;
}

pub returns-in_err-next-2-clause-refuses : goal.returns-in_err-next-2-clause-refuses
returns-in_err-next-2-clause-refuses c =
    let exit = err_from_is_err_and c.from_residual-in_err-next-2.result c.from_residual-in_err-next-2.ensures.1 in
    lacks_err _ exit.0 c.in_err-next-2.field-0.0 c.args.reader.now exit.1 exit.2
    (lacks_later c.args.reader.now c.loop-reader.reader _ c.in_err-next-2.field-0.0 (subst IsAllowed (sym c.requires) c.interval_len.ensures.allowed)
    c.loop-reader.invariant.reads c.in_err-next-2.ensures.refuses)

pub loop-reader-smaller : goal.loop-reader-smaller
loop-reader-smaller c =
    let step = c.in_ok-next-2.ensures.read c.if-branch.true in
    omega (arith, step.ahead, c.next-in-loop-reader.ensures.few)

pub loop-reader-preserved : goal.loop-reader-preserved
loop-reader-preserved c = record {
  reads = reads_more c.args.reader.now c.loop-reader.reader c.next-in-loop-reader.new.self c.loop-reader.samples.items
      c.next-in-loop-reader.new.samples.items _ (subst IsAllowed (sym c.requires) c.interval_len.ensures.allowed) c.loop-reader.invariant.reads
      (c.in_ok-next-2.ensures.read c.if-branch.true) (c.in_ok-append_behind.ensures.ok ∙ ap (λ l. c.loop-reader.samples.items ++ l) c.deref.ensures.value);
  few = c.next-in-loop-reader.ensures.few;
  at_once = more_at_once c.args.reader.now c.loop-reader.reader c.next-in-loop-reader.new.self c.args.params.now c.saturating_sub-last.result
      c.loop-reader.samples.items c.next-in-loop-reader.new.samples.items _ c.requires c.loop-reader.invariant.reads
      (c.in_ok-next-2.ensures.read c.if-branch.true) (c.in_ok-append_behind.ensures.ok ∙ ap (λ l. c.loop-reader.samples.items ++ l) c.deref.ensures.value)
      (omega (arith, c.saturating_sub-last.ensures, c.interval_len.ensures.value)) (omega (arith, c.len.ensures, c.loop-reader-test.true));
  ends = c.next-in-loop-reader.ensures.ends;
}

pub returns-else-branch-clause-read : goal.returns-else-branch-clause-read
returns-else-branch-clause-read c told =
    subst (λ q. ReadsOn c.args.reader.now c.loop-reader.samples.items q) (sym (c.in_ok-next-2.ensures.done c.if-branch.false))
    c.loop-reader.invariant.reads
