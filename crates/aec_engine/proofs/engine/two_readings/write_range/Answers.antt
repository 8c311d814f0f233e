use Rattle.std.proofs.Common.{◌≡◌, ◌∙◌, [], arith}
use Rattle.std.proofs.lemmas.List.{nil_from_length}
use Rattle.std.proofs.lemmas.Result.{err_from_is_err_and}
use Rattle.aec_params.specs.declared.fault.Fault.TheVariants.{Memory}
use Rattle.aec_engine.specs.Output.{all_stored, samples_from}
use Rattle.aec_engine.specs.ReadingTwice.{stored, no_room}
use Rattle.aec_engine.proofs.PutRangeLemmas.{none_waited}
use Rattle.aec_engine.proofs.SettlingLemmas.{settles_refusal, settles_written}
use Rattle.aec_engine.proofs.engine.two_readings.write_range.Goals as goal

pub returns-in_err-samples : goal.returns-in_err-samples
returns-in_err-samples g c xs given =
    let exit = err_from_is_err_and c.from_residual.result c.from_residual.ensures.1 in
    settles_refusal _ _ exit.0 Memory (g.W.Sink.taken c.args.sink.now) (g.W.Sink.mark c.args.sink.now)
    (g.W.Sink.begun c.args.sink.now) (g.W.Sink.failed c.args.sink.now) exit.1
    (exit.2 ∙ c.in_err-samples.ensures.fault) no_room

pub returns : goal.returns
returns g c xs given =
    let made = c.in_ok-samples in
    let none : made.bytes.items ≡ [] = nil_from_length made.bytes.items (omega (arith, made.bytes.ok, made.ensures.empty)) in
    settles_written _ c.deliver_range.result (all_stored c.args.params.now (samples_from c.args.part.first c.args.part.len xs)) _ stored
    (none_waited _ _ made.bytes.items _ none (c.deliver_range.ensures.delivers xs given))
