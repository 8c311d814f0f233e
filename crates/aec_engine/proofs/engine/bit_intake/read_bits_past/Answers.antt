use Rattle.std.proofs.Common.{arith, take}
use Rattle.std.proofs.lemmas.List.{length-take}
use Rattle.aec_engine.proofs.IntakeLemmas.{takes_more, gave_failed, gave_past, nearer}
use Rattle.aec_engine.proofs.engine.bit_intake.read_bits_past.Goals as goal

pub loop-piece-smaller : goal.loop-piece-smaller
loop-piece-smaller g c =
    nearer c.loop-piece.bits.list c.append_bytes.new.self.list (take c.in-Ok.count c.take.new.buf) c.args.limit c.byte_len.result
    c.in_ok-append_bytes-in-Ok.ensures.ok
    (omega (arith, length-take c.in-Ok.count c.take.new.buf, c.in-Ok.ensures.bound, c.in-Ok.count-test)) c.byte_len.ensures.bits c.loop-piece-test.true

pub loop-piece-preserved : goal.loop-piece-preserved
loop-piece-preserved g c =
    takes_more _ _ _ _ _ c.loop-piece.bits.list _ (take c.in-Ok.count c.take.new.buf) c.loop-piece.invariant
    c.in-Ok.ensures.bytes.0 c.in-Ok.ensures.failure.1 c.in_ok-append_bytes-in-Ok.ensures.ok

pub returns-in-Err-clause-ok : goal.returns-in-Err-clause-ok
returns-in-Err-clause-ok g c =
    gave_failed _ _ _ _ _ c.args.limit c.byte_len.result c.loop-piece.bits.list c.loop-piece.invariant c.in-Err.ensures.bytes c.in-Err.ensures.failure.1
    c.byte_len.ensures.bits c.loop-piece-test.true

pub returns-clause-ok : goal.returns-clause-ok
returns-clause-ok g c =
    gave_past _ _ _ c.args.limit c.byte_len.result c.loop-piece.bits.list c.loop-piece.invariant c.byte_len.ensures.bits c.loop-piece-test.false
