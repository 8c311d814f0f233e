use Rattle.std.proofs.Common.{arith}
use Rattle.aec_engine.proofs.KeptBufferLemmas.{given_past, given_all, given_none}
use Rattle.aec_engine.proofs.engine.bit_intake.bits_of.Goals as goal

pub returns-then-coded-limit-clause-refuses : goal.returns-then-coded-limit-clause-refuses
returns-then-coded-limit-clause-refuses c = given_past c.args.coded.now c.args.limit (omega (arith, c.if-coded-limit.true))

pub returns-clause-refuses : goal.returns-clause-refuses
returns-clause-refuses c = given_none c.from_bytes.result c.args.coded.now c.args.limit c.from_bytes.ensures.fault

pub returns-clause-ok : goal.returns-clause-ok
returns-clause-ok c =
    given_all (λ b. b.list) c.from_bytes.result c.args.coded.now c.args.limit (omega (arith, c.if-coded-limit.false)) c.from_bytes.ensures.ok
