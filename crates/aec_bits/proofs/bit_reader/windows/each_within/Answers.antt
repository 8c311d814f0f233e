use Rattle.std.proofs.Common.{length, arith}
use Rattle.aec_bits.proofs.GroupLemmas.{some_one}
use Rattle.aec_bits.proofs.bit_reader.windows.each_within.Goals as goal

pub next_sequence-zeros-requires-clause-some : goal.next_sequence-zeros-requires-clause-some
next_sequence-zeros-requires-clause-some c =
    some_one c.loop-i.rest.word c.loop-i.i (length c.loop-i.numbers) (omega arith) c.loop-i.invariant.ones
