use Rattle.std.proofs.Common.{arith}
use Rattle.std.proofs.lemmas.Result.{err_from_is_err_and}
use Rattle.aec_engine.specs.Transfers.{source_failed, too_many_bytes}
use Rattle.aec_engine.proofs.DeviceLemmas.{refused_by_memory}
use Rattle.aec_engine.proofs.engine.intake.read_whole.Goals as goal

pub returns-in_err-bytes-clause-refuses : goal.returns-in_err-bytes-clause-refuses
returns-in_err-bytes-clause-refuses g c =
    let exit = err_from_is_err_and c.from_residual.result c.from_residual.ensures.1 in
    refused_by_memory _ exit.0 c.in_err-bytes.field-0.0 _ _ _ _ exit.1 exit.2 c.in_err-bytes.ensures.fault

pub returns-then-failed-clause-refuses : goal.returns-then-failed-clause-refuses
returns-then-failed-clause-refuses g c =
    let gave = c.in_ok-bytes.ensures.ok in
    source_failed c.in_ok-bytes.bytes.items
    (record { taken = gave.taken; failed = gave.failed c.if-failed.true; within = c.in_ok-bytes.ensures.within c.if-failed.true })

pub returns-then-len-limit-clause-refuses : goal.returns-then-len-limit-clause-refuses
returns-then-len-limit-clause-refuses g c =
    let gave = c.in_ok-bytes.ensures.ok in
    too_many_bytes c.in_ok-bytes.bytes.items
    (record { taken = gave.taken; sound = gave.sound c.if-failed.false; past = omega (arith, c.in_ok-bytes.bytes.ok, c.if-len-limit.true) })
