use Rattle.std.proofs.Common.{Some, Err, arith, ◌∙◌, ap, refl}
use Rattle.std.proofs.lemmas.List.{nil_from_length}
use Rattle.std.proofs.lemmas.Result.{err_from_is_err_and}
use Rattle.aec_params.specs.declared.fault.Fault.TheVariants.{Memory}
use Rattle.aec_interval.specs.Reached.{faulty}
use Rattle.aec_engine.specs.ReadingTwice.{unread, no_memory}
use Rattle.aec_engine.proofs.KeepingLemmas.{keeps_none, refuses_behind, settles_kept}
use Rattle.aec_engine.proofs.SettlingLemmas.{leaves_refusal, intake_decoded, leaves_decoded, settles_refusal, refuses_count, refuses_reading}
use Rattle.aec_engine.proofs.engine.decoding.decode.Goals as goal

pub returns-in_err-bits : goal.returns-in_err-bits
returns-in_err-bits g c =
    let exit = err_from_is_err_and c.from_residual.result c.from_residual.ensures.1 in
    leaves_refusal _ _ _ _ exit.0 c.in_err-bits.field-0.0
    (g.W.Sink.taken c.args.sink.now) (g.W.Sink.mark c.args.sink.now) (g.W.Sink.begun c.args.sink.now) (g.W.Sink.failed c.args.sink.now) exit.1 exit.2
    (intake_decoded c.args.params.now c.args.limits c.args.count _ _ _ _ c.in_err-bits.field-0.0 c.bytes.ensures.value c.in_err-bits.ensures.refuses)

pub returns-in_err-reader : goal.returns-in_err-reader
returns-in_err-reader g c =
    let exit = err_from_is_err_and c.from_residual-in_err-reader.result c.from_residual-in_err-reader.ensures.1 in
    leaves_decoded c.args.params.now c.args.limits c.args.count _ _ _ _ _ c.in_ok-bits.bits.list _ _ c.bytes.ensures.value
    c.samples.ensures.value c.in_ok-bits.ensures.ok
    (settles_refusal _ _ exit.0 exit.0 (g.W.Sink.taken c.args.sink.now) (g.W.Sink.mark c.args.sink.now)
    (g.W.Sink.begun c.args.sink.now) (g.W.Sink.failed c.args.sink.now) exit.1 refl
    (unread exit.0 (refuses_count _ _ _ _ exit.0 (ap Some exit.2 ∙ c.in_err-reader.ensures.refuses))))

pub returns-in_err-judge_all-in-Err : goal.returns-in_err-judge_all-in-Err
returns-in_err-judge_all-in-Err g c =
    let exit = err_from_is_err_and c.from_residual-in_err-judge_all-in-Err.result c.from_residual-in_err-judge_all-in-Err.ensures.1 in
    let judged = c.in_err-judge_all-in-Err in
    leaves_decoded c.args.params.now c.args.limits c.args.count _ _ _ _ _ c.in_ok-bits.bits.list _ _ c.bytes.ensures.value
    c.samples.ensures.value c.in_ok-bits.ensures.ok
    (settles_refusal _ _ exit.0 judged.field-0.0 (g.W.Sink.taken c.args.sink.now) (g.W.Sink.mark c.args.sink.now)
    (g.W.Sink.begun c.args.sink.now) (g.W.Sink.failed c.args.sink.now) exit.1 exit.2
    (unread judged.field-0.0 (refuses_reading _ _ _ _ c.in_ok-reader.reader judged.field-0.0 c.in_ok-reader.ensures.ok
    c.in_ok-reader.ensures.refuses (faulty judged.field-0.0 judged.ensures.refuses))))

pub returns-in-Err : goal.returns-in-Err
returns-in-Err g c =
    leaves_decoded c.args.params.now c.args.limits c.args.count _ _ _ _ _ c.in_ok-bits.bits.list _ _ c.bytes.ensures.value
    c.samples.ensures.value c.in_ok-bits.ensures.ok
    (settles_refusal _ (Err c.in-Err.fault) c.in-Err.fault Memory (g.W.Sink.taken c.args.sink.now) (g.W.Sink.mark c.args.sink.now)
    (g.W.Sink.begun c.args.sink.now) (g.W.Sink.failed c.args.sink.now) refl c.in-Err.ensures.fault no_memory)

pub keep_more-requires-clause-kept : goal.keep_more-requires-clause-kept
keep_more-requires-clause-kept g c =
    keeps_none c.in_ok-reader.reader c.args.params.now _ (ap (λ p. p.block) c.in_ok-reader.ensures.ok) (ap (λ p. p.bit) c.in_ok-reader.ensures.ok)
    (nil_from_length _ (omega (arith, c.in-Ok.ensures.empty)))

pub returns-in_err-kept : goal.returns-in_err-kept
returns-in_err-kept g c =
    let exit = err_from_is_err_and c.from_residual-in_err-kept.result c.from_residual-in_err-kept.ensures.1 in
    let kept = c.in_err-kept in
    leaves_decoded c.args.params.now c.args.limits c.args.count _ _ _ _ _ c.in_ok-bits.bits.list _ _ c.bytes.ensures.value
    c.samples.ensures.value c.in_ok-bits.ensures.ok
    (settles_refusal _ _ exit.0 kept.field-0.0 (g.W.Sink.taken c.args.sink.now) (g.W.Sink.mark c.args.sink.now)
    (g.W.Sink.begun c.args.sink.now) (g.W.Sink.failed c.args.sink.now) exit.1 exit.2
    (unread kept.field-0.0 (refuses_reading _ _ _ _ c.in_ok-reader.reader kept.field-0.0 c.in_ok-reader.ensures.ok
    c.in_ok-reader.ensures.refuses kept.ensures.refuses)))

pub returns-in_err-judged : goal.returns-in_err-judged
returns-in_err-judged g c =
    let exit = err_from_is_err_and c.from_residual-in_err-judged.result c.from_residual-in_err-judged.ensures.1 in
    let judged = c.in_err-judged in
    leaves_decoded c.args.params.now c.args.limits c.args.count _ _ _ _ _ c.in_ok-bits.bits.list _ _ c.bytes.ensures.value
    c.samples.ensures.value c.in_ok-bits.ensures.ok
    (settles_refusal _ _ exit.0 judged.field-0.0 (g.W.Sink.taken c.args.sink.now) (g.W.Sink.mark c.args.sink.now)
    (g.W.Sink.begun c.args.sink.now) (g.W.Sink.failed c.args.sink.now) exit.1 exit.2
    (unread judged.field-0.0 (refuses_behind _ _ _ _ c.in_ok-reader.reader c.keep_more.new.reader judged.field-0.0 c.in_ok-reader.ensures.ok
    c.in_ok-kept.ensures.same c.in_ok-reader.ensures.refuses (faulty judged.field-0.0 judged.ensures.refuses))))

pub returns : goal.returns
returns g c =
    leaves_decoded c.args.params.now c.args.limits c.args.count _ _ _ _ _ c.in_ok-bits.bits.list _ _ c.bytes.ensures.value
    c.samples.ensures.value c.in_ok-bits.ensures.ok
    (settles_kept c.args.params.now c.args.count _ _ c.in_ok-reader.reader c.keep_more.new.reader c.judge_from.new.reader c.in_ok-kept.kept
    c.in_ok-judged.judged.total c.saturating_sub.result c.keep_more.new.bytes.items _ c.deliver_range.result c.decoding_buffers.ensures.allowed
    c.in_ok-reader.ensures.ok c.in_ok-reader.ensures.refuses c.in_ok-kept.ensures.same c.in_ok-judged.ensures.same c.in_ok-kept.ensures.kept
    c.in_ok-judged.ensures.ok c.saturating_sub.ensures c.deliver_range.ensures.delivers)
