use Rattle.std.proofs.Common.{◌*◌, length, drop, arith}
use Rattle.aec_bits.proofs.GroupLemmas.{sequences_more, stops_later, rest_stops}
use Rattle.aec_bits.proofs.bit_reader.windows.sequences_from.Goals as goal

pub returns-in_err-window-clause-cases : goal.returns-in_err-window-clause-cases
returns-in_err-window-clause-cases c =
    rw c.from_residual.ensures
    (stops_later 64 c.loop-i.numbers (16 * c.loop-i.i) _ (length c.args.numbers.now) _ (drop c.args.start c.args.buf.now.list)
    (omega arith) (omega arith) c.in_err-window.ensures.cases c.loop-i.invariant.read)

pub loop-i-preserved : goal.loop-i-preserved
loop-i-preserved c =
    sequences_more c.args.buf.now.list c.args.start c.loop-i.i c.loop-i.numbers c.next_sequences.new.numbers _ _ _ _ _ _
    (omega arith) c.next_sequences.ensures.len c.loop-i.invariant c.in_ok-window.ensures.cases

pub returns-in_err-after-clause-cases : goal.returns-in_err-after-clause-cases
returns-in_err-after-clause-cases c =
    rw c.from_residual-in_err-after.ensures
    (rest_stops c.args.buf.now.list c.args.start (length c.args.numbers.now) c.loop-i.i c.loop-i.numbers _ _ _ c.loop-i.auto.numbers
    c.loop-i-test.false c.loop-i.auto.i-end c.loop-i.invariant c.in_err-after.ensures.cases)
