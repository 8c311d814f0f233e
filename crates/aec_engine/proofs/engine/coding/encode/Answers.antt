use Rattle.std.proofs.Common.{◌<◌, ◌∙◌, ap, length, take, refl, arith}
use Rattle.std.proofs.lemmas.List.{length-take}
use Rattle.std.proofs.lemmas.Result.{err_from_is_err_and}
use Rattle.aec_params.specs.Codewords.{bytes_of}
use Rattle.aec_interval.specs.Feeding.{fresh_coder}
use Rattle.aec_engine.proofs.CodingLemmas.{fed_begins, fed_goes_on, fed_ends, fed_fails, fed_stops, fewer_left, unrefused_so_far, unless_refused, stopped_answer, coded_answer}
use Rattle.aec_engine.proofs.SettlingLemmas.{leaves_refusal, leaves_memory, leaves_delivered}
use Rattle.aec_engine.proofs.engine.coding.encode.Goals as goal

pub loop-bits-init : goal.loop-bits-init
loop-bits-init g c =
    fed_begins c.args.params.now c.args.limits.samples (g.R.Source.left c.args.source.now) c.new-bits.result.list c.new-coder.result
    c.known_allowed.ensures c.new-bits.ensures.list (c.new-coder.ensures ∙ ap (fresh_coder c.args.params.now) c.samples.ensures.value)

pub returns-in_err-count : goal.returns-in_err-count
returns-in_err-count g c =
    let exit = err_from_is_err_and c.from_residual.result c.from_residual.ensures.1 in
    leaves_refusal _ _ _ _ exit.0 c.in_err-count.field-0.0 (g.W.Sink.taken c.args.sink.now) (g.W.Sink.mark c.args.sink.now)
    (g.W.Sink.begun c.args.sink.now) (g.W.Sink.failed c.args.sink.now) exit.1 exit.2
    (stopped_answer c.args.params.now c.args.limits c.args.limits.samples _ c.in_err-count.field-0.0 refl
    (fed_fails c.args.params.now c.args.limits.samples (g.R.Source.left c.args.source.now) (g.R.Source.left c.loop-bits.source)
    (g.R.Source.left c.take.new.self) (g.R.Source.failed c.take.new.self) c.loop-bits.bits.list c.loop-bits.coder c.in_err-count.field-0.0
    c.loop-bits.invariant c.in_err-count.ensures.bytes c.in_err-count.ensures.failure))

pub loop-bits-smaller : goal.loop-bits-smaller
loop-bits-smaller g c =
    let some : 0 < length (take c.in_ok-count.count c.take.new.buf) =
    omega (arith, length-take c.in_ok-count.count c.take.new.buf, c.in_ok-count.ensures.bound, c.if-count-eq0.false) in
    fewer_left c.args.params.now c.args.limits.samples (g.R.Source.left c.args.source.now) (g.R.Source.left c.loop-bits.source)
    c.loop-bits.bits.list c.feed.new.out.list c.loop-bits.coder c.feed.new.self (take c.in_ok-count.count c.take.new.buf)
    c.loop-bits.invariant c.in_ok-feed.ensures.ok some

pub loop-bits-preserved : goal.loop-bits-preserved
loop-bits-preserved g c =
    fed_goes_on c.args.params.now c.args.limits.samples (g.R.Source.left c.args.source.now) (g.R.Source.left c.loop-bits.source)
    (g.R.Source.left c.take.new.self) c.loop-bits.bits.list c.feed.new.out.list c.loop-bits.coder c.feed.new.self
    (take c.in_ok-count.count c.take.new.buf) c.loop-bits.invariant c.in_ok-count.ensures.bytes.0 c.in_ok-feed.ensures.ok

pub returns-in_err-feed : goal.returns-in_err-feed
returns-in_err-feed g c =
    let exit = err_from_is_err_and c.from_residual-in_err-feed.result c.from_residual-in_err-feed.ensures.1 in
    let none = unrefused_so_far c.args.params.now c.args.limits.samples _ _ c.loop-bits.bits.list c.loop-bits.coder c.loop-bits.invariant in
    leaves_refusal _ _ _ _ exit.0 c.in_err-feed.field-0.0 (g.W.Sink.taken c.args.sink.now) (g.W.Sink.mark c.args.sink.now)
    (g.W.Sink.begun c.args.sink.now) (g.W.Sink.failed c.args.sink.now) exit.1 exit.2
    (stopped_answer c.args.params.now c.args.limits c.args.limits.samples _ c.in_err-feed.field-0.0 refl
    (fed_stops c.args.params.now c.args.limits.samples (g.R.Source.left c.args.source.now) (g.R.Source.left c.loop-bits.source)
    (g.R.Source.left c.take.new.self) (g.R.Source.failed c.take.new.self) c.loop-bits.bits.list c.feed.new.out.list c.loop-bits.coder
    (take c.in_ok-count.count c.take.new.buf) c.in_err-feed.field-0.0 c.loop-bits.invariant c.in_ok-count.ensures.bytes.0
    c.in_ok-count.ensures.failure.1 (unless_refused c.loop-bits.coder.refusal _ _ none c.in_err-feed.ensures.refuses)))

pub returns-in_err-finish : goal.returns-in_err-finish
returns-in_err-finish g c =
    let exit = err_from_is_err_and c.from_residual-in_err-finish.result c.from_residual-in_err-finish.ensures.1 in
    let none = unrefused_so_far c.args.params.now c.args.limits.samples _ _ c.loop-bits.bits.list c.loop-bits.coder c.loop-bits.invariant in
    leaves_memory _ _ _ _ exit.0 c.in_err-finish.field-0.0 (g.W.Sink.taken c.args.sink.now) (g.W.Sink.mark c.args.sink.now)
    (g.W.Sink.begun c.args.sink.now) (g.W.Sink.failed c.args.sink.now) exit.1 exit.2
    (unless_refused c.loop-bits.coder.refusal _ _ none c.in_err-finish.ensures.refuses).0

pub returns : goal.returns
returns g c =
    let all = fed_ends c.args.params.now c.args.limits.samples (g.R.Source.left c.args.source.now) (g.R.Source.left c.loop-bits.source)
    (g.R.Source.left c.take.new.self) (g.R.Source.failed c.take.new.self) c.loop-bits.bits.list c.loop-bits.coder c.in_ok-count.count c.take.new.buf
    c.loop-bits.invariant c.in_ok-count.ensures.bytes c.in_ok-count.ensures.failure.1 (omega (arith, c.if-count-eq0.true)) (omega arith) in
    leaves_delivered _ _ _ _ c.deliver_bits.result (bytes_of c.finish.new.out.list)
    (coded_answer c.args.params.now c.args.limits c.args.limits.samples _ c.loop-bits.bits.list c.finish.new.out.list c.loop-bits.coder
    all.allowed refl all c.in_ok-finish.ensures.ok)
    c.deliver_bits.ensures
