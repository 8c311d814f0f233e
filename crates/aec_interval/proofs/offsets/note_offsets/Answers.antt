use Rattle.std.proofs.Common.{sym, ◌∙◌, arith}
use Rattle.aec_params.specs.declared.fault.Fault.TheVariants.{Memory}
use Rattle.aec_interval.proofs.RefusalLemmas.{of_refusal}
use Rattle.aec_interval.proofs.NotingLemmas.{found_interval, noted-start, noted-more, noted-all, noted-refused, noted-memory}
use Rattle.aec_interval.proofs.offsets.note_offsets.Goals as goal

pub loop-offsets-init : goal.loop-offsets-init
loop-offsets-init c = record { noted = noted-start _ c.known_allowed.ensures _ _ _ c.args.reader.now _ c.requires.start c.requires.empty }

pub returns-in_err-skip-clause-refuses : goal.returns-in_err-skip-clause-refuses
returns-in_err-skip-clause-refuses c =
    of_refusal _ _ _ c.from_residual.ensures.1
    (noted-refused _ c.known_allowed.ensures _ _ _ c.loop-offsets.reader _ _ c.loop-offsets.invariant.noted c.requires.few c.in_err-skip.ensures.refuses)

pub returns-then-is_none-clause-ok : goal.returns-then-is_none-clause-ok
returns-then-is_none-clause-ok c =
    noted-all _ c.known_allowed.ensures _ _ _ c.loop-offsets.reader _ c.loop-offsets.invariant.noted (sym c.in_ok-skip.ensures.more ∙ c.if-is_none.ensures)

pub loop-offsets-smaller : goal.loop-offsets-smaller
loop-offsets-smaller c =
    let has = found_interval c.loop-offsets.reader c.skip.new.self _ c.in_ok-skip.ensures.skipped c.if-is_none.ensures in
    omega arith

pub loop-offsets-preserved : goal.loop-offsets-preserved
loop-offsets-preserved c =
    let has = found_interval c.loop-offsets.reader c.skip.new.self _ c.in_ok-skip.ensures.skipped c.if-is_none.ensures in
    record {
      noted = noted-more _ c.known_allowed.ensures _ _ _ c.loop-offsets.reader c.skip.new.self has.0 _ c.loop-offsets.offsets.items c.push.new.self.items
          c.loop-offsets.invariant.noted has.1 c.place-begin.ensures.bit c.in_ok-push.ensures.items;
    }

pub returns-in_err-push-clause-refuses : goal.returns-in_err-push-clause-refuses
returns-in_err-push-clause-refuses c =
    let has = found_interval c.loop-offsets.reader c.skip.new.self _ c.in_ok-skip.ensures.skipped c.if-is_none.ensures in
    of_refusal _ _ Memory c.from_residual-in_err-push.ensures.1
    (noted-memory _ c.known_allowed.ensures _ _ _ c.loop-offsets.reader c.skip.new.self has.0 _ c.loop-offsets.invariant.noted has.1 c.requires.few)
