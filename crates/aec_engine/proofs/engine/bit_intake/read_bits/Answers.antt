use Rattle.std.proofs.lemmas.Result.{err_from_is_err_and}
use Rattle.aec_engine.proofs.DeviceLemmas.{refused_by_memory}
use Rattle.aec_engine.proofs.IntakeLemmas.{gave_whole_bits, refuses_failed, refuses_past}
use Rattle.aec_engine.proofs.engine.bit_intake.read_bits.Goals as goal

pub returns-in_err-bits-clause-refuses : goal.returns-in_err-bits-clause-refuses
returns-in_err-bits-clause-refuses g c =
    let exit = err_from_is_err_and c.from_residual.result c.from_residual.ensures.1 in
    refused_by_memory _ exit.0 c.in_err-bits.field-0.0 _ _ _ _ exit.1 exit.2 c.in_err-bits.ensures.fault

pub returns-then-failed-clause-refuses : goal.returns-then-failed-clause-refuses
returns-then-failed-clause-refuses g c = refuses_failed _ _ _ _ c.in_ok-bits.bits.list _ c.in_ok-bits.ensures.ok c.if-failed.true

pub returns-then-byte_len-limit-clause-refuses : goal.returns-then-byte_len-limit-clause-refuses
returns-then-byte_len-limit-clause-refuses g c =
    refuses_past _ _ _ _ c.byte_len.result c.in_ok-bits.bits.list _ c.in_ok-bits.ensures.ok c.if-failed.false c.byte_len.ensures.bits c.if-byte_len-limit.true

pub returns-clause-ok : goal.returns-clause-ok
returns-clause-ok g c =
    gave_whole_bits _ _ _ _ c.byte_len.result c.in_ok-bits.bits.list _ c.in_ok-bits.ensures.ok c.if-failed.false c.byte_len.ensures.bits
    c.if-byte_len-limit.false
