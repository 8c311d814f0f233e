use Rattle.std.proofs.Common.{Some, ◌∙◌, ap, arith, refl}
use Rattle.std.proofs.lemmas.Result.{err_from_is_err_and}
use Rattle.aec_interval.specs.Reached.{faulty}
use Rattle.aec_engine.specs.ReadingTwice.{not_read}
use Rattle.aec_engine.proofs.SettlingLemmas.{refuses_count, refuses_reading, cuts_past}
use Rattle.aec_engine.proofs.BufferLemmas.{fills_refusal}
use Rattle.aec_engine.proofs.RangeBufferLemmas.{part_range, few_of_range, cuts_into}
use Rattle.aec_engine.proofs.engine.into_buffers.range_bits_into.Goals as goal

pub returns-in_err-reader : goal.returns-in_err-reader
returns-in_err-reader c =
    let exit = err_from_is_err_and c.from_residual.result c.from_residual.ensures.1 in
    fills_refusal _ c.args.out.now _ exit.0 exit.0 exit.1 refl
    (rw (← c.samples.ensures.value)
    (not_read exit.0 (refuses_count _ _ _ _ exit.0 (ap Some exit.2 ∙ c.in_err-reader.ensures.refuses))))

pub returns-in_err-judged : goal.returns-in_err-judged
returns-in_err-judged c =
    let exit = err_from_is_err_and c.from_residual-in_err-judged.result c.from_residual-in_err-judged.ensures.1 in
    let fault = c.in_err-judged.field-0.0 in
    fills_refusal _ c.args.out.now _ exit.0 fault exit.1 exit.2
    (rw (← c.samples.ensures.value)
    (not_read fault (refuses_reading _ _ _ _ c.in_ok-reader.reader fault c.in_ok-reader.ensures.ok c.in_ok-reader.ensures.refuses
    (faulty fault c.in_err-judged.ensures.refuses))))

pub returns-in_err-judge_range : goal.returns-in_err-judge_range
returns-in_err-judge_range c =
    let exit = err_from_is_err_and c.from_residual-in_err-judge_range.result c.from_residual-in_err-judge_range.ensures.1 in
    let fault = c.in_err-judge_range.field-0.0 in
    fills_refusal _ c.args.out.now _ exit.0 fault exit.1 exit.2
    (rw (← c.samples.ensures.value)
    (cuts_past _ _ _ _ _ _ c.in_ok-reader.reader c.in_ok-judged.judged.total fault c.in_ok-reader.ensures.ok c.in_ok-reader.ensures.refuses
    c.in_ok-judged.ensures.ok c.in_err-judge_range.ensures.refuses))

pub put_range_front-requires-clause-read : goal.put_range_front-requires-clause-read
put_range_front-requires-clause-read c =
    part_range c.in_ok-reader.reader c.judge_samples.new.reader c.args.first c.args.len c.in_ok-judged.judged.total c.in_ok-judged.ensures.same
    c.in_ok-judged.ensures.ok c.in_ok-judge_range.ensures.within

pub put_range_front-requires-clause-few : goal.put_range_front-requires-clause-few
put_range_front-requires-clause-few c =
    let few = few_of_range c.args.terms.now.params c.args.terms.now.count c.samples.result c.args.bits.now.list c.in_ok-reader.reader c.args.first c.args.len
    c.in_ok-judged.judged.total c.known_allowed.ensures c.in_ok-reader.ensures.ok c.in_ok-reader.ensures.refuses c.in_ok-judged.ensures.ok
    c.in_ok-judge_range.ensures.within in
    omega (arith, few, c.samples.ensures.value, c.samples.ensures.limits.samples)

pub returns : goal.returns
returns c =
    cuts_into _ _ _ _ c.args.first c.args.len _ c.in_ok-reader.reader c.judge_samples.new.reader c.in_ok-judged.judged.total c.args.out.now _
    c.put_range_front.result c.samples.ensures.value c.in_ok-reader.ensures.ok c.in_ok-reader.ensures.refuses c.in_ok-judged.ensures.ok
    c.in_ok-judged.ensures.same c.in_ok-judge_range.ensures.within c.put_range_front.ensures
