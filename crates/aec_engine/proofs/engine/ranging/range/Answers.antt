use Rattle.std.proofs.Common.{Some, ◌∙◌, ap, refl}
use Rattle.std.proofs.lemmas.Result.{err_from_is_err_and}
use Rattle.aec_interval.specs.Pieces.{Place}
use Rattle.aec_interval.specs.Reached.{faulty}
use Rattle.aec_engine.specs.ReadingTwice.{not_read}
use Rattle.aec_engine.proofs.ReadTwiceLemmas.{place_from}
use Rattle.aec_engine.proofs.SettlingLemmas.{leaves_refusal, intake_ranged, leaves_ranged, settles_refusal, refuses_count, refuses_reading, samples_told, samples_there, cuts_part, cuts_past}
use Rattle.aec_engine.proofs.engine.ranging.range.Goals as goal

pub returns-in_err-bits : goal.returns-in_err-bits
returns-in_err-bits g c =
    let exit = err_from_is_err_and c.from_residual.result c.from_residual.ensures.1 in
    leaves_refusal _ _ _ _ exit.0 c.in_err-bits.field-0.0
    (g.W.Sink.taken c.args.sink.now) (g.W.Sink.mark c.args.sink.now) (g.W.Sink.begun c.args.sink.now) (g.W.Sink.failed c.args.sink.now) exit.1 exit.2
    (intake_ranged c.args.params.now c.args.limits c.args.count c.args.first c.args.len _ _ _ _ c.in_err-bits.field-0.0 c.bytes.ensures.value
    c.in_err-bits.ensures.refuses)

pub returns-in_err-reader : goal.returns-in_err-reader
returns-in_err-reader g c =
    let exit = err_from_is_err_and c.from_residual-in_err-reader.result c.from_residual-in_err-reader.ensures.1 in
    leaves_ranged c.args.params.now c.args.limits c.args.count c.args.first c.args.len _ _ _ _ _ c.in_ok-bits.bits.list _ _ c.bytes.ensures.value
    c.samples.ensures.value c.in_ok-bits.ensures.ok
    (settles_refusal _ _ exit.0 exit.0 (g.W.Sink.taken c.args.sink.now) (g.W.Sink.mark c.args.sink.now)
    (g.W.Sink.begun c.args.sink.now) (g.W.Sink.failed c.args.sink.now) exit.1 refl
    (not_read exit.0 (refuses_count _ _ _ _ exit.0 (ap Some exit.2 ∙ c.in_err-reader.ensures.refuses))))

pub returns-in_err-judged : goal.returns-in_err-judged
returns-in_err-judged g c =
    let exit = err_from_is_err_and c.from_residual-in_err-judged.result c.from_residual-in_err-judged.ensures.1 in
    let judged = c.in_err-judged in
    leaves_ranged c.args.params.now c.args.limits c.args.count c.args.first c.args.len _ _ _ _ _ c.in_ok-bits.bits.list _ _ c.bytes.ensures.value
    c.samples.ensures.value c.in_ok-bits.ensures.ok
    (settles_refusal _ _ exit.0 judged.field-0.0 (g.W.Sink.taken c.args.sink.now) (g.W.Sink.mark c.args.sink.now)
    (g.W.Sink.begun c.args.sink.now) (g.W.Sink.failed c.args.sink.now) exit.1 exit.2
    (not_read judged.field-0.0 (refuses_reading _ _ _ _ c.in_ok-reader.reader judged.field-0.0 c.in_ok-reader.ensures.ok
    c.in_ok-reader.ensures.refuses (faulty judged.field-0.0 judged.ensures.refuses))))

pub returns-in_err-judge_range : goal.returns-in_err-judge_range
returns-in_err-judge_range g c =
    let exit = err_from_is_err_and c.from_residual-in_err-judge_range.result c.from_residual-in_err-judge_range.ensures.1 in
    let refused = c.in_err-judge_range in
    leaves_ranged c.args.params.now c.args.limits c.args.count c.args.first c.args.len _ _ _ _ _ c.in_ok-bits.bits.list _ _ c.bytes.ensures.value
    c.samples.ensures.value c.in_ok-bits.ensures.ok
    (settles_refusal _ _ exit.0 refused.field-0.0 (g.W.Sink.taken c.args.sink.now) (g.W.Sink.mark c.args.sink.now)
    (g.W.Sink.begun c.args.sink.now) (g.W.Sink.failed c.args.sink.now) exit.1 exit.2
    (cuts_past _ _ _ _ _ _ c.in_ok-reader.reader c.in_ok-judged.judged.total refused.field-0.0 c.in_ok-reader.ensures.ok
    c.in_ok-reader.ensures.refuses c.in_ok-judged.ensures.ok refused.ensures.refuses))

pub write_range-requires : goal.write_range-requires
write_range-requires g c =
    let there = samples_there c.in_ok-reader.reader c.judge_samples.new.reader c.in_ok-judged.judged.total c.in_ok-judged.ensures.same
    c.in_ok-judged.ensures.ok in
    record {
      ready = record {
        settings = ap (λ (p : Place). p.settings) (c.in_ok-judged.ensures.same
            ∙ ap (λ p. place_from p c.judge_samples.new.reader.block c.judge_samples.new.reader.bit) c.in_ok-reader.ensures.ok);
        read = samples_told c.judge_samples.new.reader c.in_ok-judged.judged.total there;
        begun = c.in_ok-judged.ensures.begun;
      };
    }

pub returns : goal.returns
returns g c =
    leaves_ranged c.args.params.now c.args.limits c.args.count c.args.first c.args.len _ _ _ _ _ c.in_ok-bits.bits.list _ _ c.bytes.ensures.value
    c.samples.ensures.value c.in_ok-bits.ensures.ok
    (cuts_part _ _ _ _ _ _ _ c.in_ok-reader.reader c.judge_samples.new.reader _ _ c.write_range.result refl c.in_ok-reader.ensures.ok
    c.in_ok-reader.ensures.refuses c.in_ok-judged.ensures.ok c.in_ok-judged.ensures.same c.in_ok-judge_range.ensures.within c.write_range.ensures)
