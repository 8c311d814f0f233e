use Rattle.std.proofs.Common.{◌*◌, ◌++◌, ◌∙◌, drop, arith, ap, subst, sym}
use Rattle.std.proofs.lemmas.Result.{err_from_is_err_and}
use Rattle.aec_params.specs.declared.fault.Fault.TheVariants.{Memory}
use Rattle.aec_params.specs.Params.{IsAllowed}
use Rattle.aec_engine.specs.ReadingTwice.{no_room}
use Rattle.aec_engine.proofs.BufferLemmas.{fills_refusal, fills_not, fills_front}
use Rattle.aec_engine.proofs.engine.into_buffers.put_range_front.Goals as goal

pub returns-then-size-out : goal.returns-then-size-out
returns-then-size-out c xs told =
    fills_not c.args.reader.now c.args.params.now c.args.part.first c.args.part.len (c.args.part.len * c.storage.result) c.args.out.now xs
    (subst IsAllowed (sym c.requires.settings) c.storage.ensures.allowed) c.requires.read told (ap (λ n. c.args.part.len * n) c.storage.ensures.value)
    (omega (arith, c.if-size-out.true))

pub returns-in_err-samples : goal.returns-in_err-samples
returns-in_err-samples c xs told =
    let exit = err_from_is_err_and c.from_residual.result c.from_residual.ensures.1 in
    fills_refusal _ c.args.out.now _ exit.0 Memory exit.1 (exit.2 ∙ c.in_err-samples.ensures.fault) no_room

pub returns : goal.returns
returns c xs told =
    fills_front c.args.reader.now c.args.params.now c.args.part.first c.args.part.len (c.args.part.len * c.storage.result) c.args.out.now _ xs
    (subst IsAllowed (sym c.requires.settings) c.storage.ensures.allowed) c.requires.read told (ap (λ n. c.args.part.len * n) c.storage.ensures.value)
    (omega (arith, c.if-size-out.false)) (ap (λ b. b ++ drop (c.args.part.len * c.storage.result) c.args.out.now) (c.fill_range.ensures.filled xs told))
