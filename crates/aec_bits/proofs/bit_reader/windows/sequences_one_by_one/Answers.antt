use Rattle.std.proofs.Common.{◌-◌, arith}
use Rattle.aec_bits.proofs.WindowLemmas.{sequence_read}
use Rattle.aec_bits.proofs.bit_reader.windows.sequences_one_by_one.Goals as goal

pub loop-number-preserved : goal.loop-number-preserved
loop-number-preserved c =
    let here = c.with_one-rest in
    let rest = c.next_sequence-zeros.result.1 in
    let first = c.next_sequence-zeros.ensures in
    let from = c.args.window in
    let read = sequence_read c.args.buf.now.list c.loop-number.numbers here.result.word here.result.left here.result.end rest.left rest.word rest.end
    c.loop-number.number-index c.next_sequence-zeros.result.0 (c.loop-number.rest.end - c.loop-number.rest.left) (from.end - from.left)
    (omega arith) first.first.left first.first.end here.ensures.place here.ensures.window.window first.first.stands c.loop-number.invariant.read in
    record { window = read.0; fits = first.fits; read = read.1 }
