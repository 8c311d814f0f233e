use Rattle.std.proofs.Common.{arith}
use Rattle.aec_bits.proofs.FromWordLemmas.{left_of_word, sequences_from_word}
use Rattle.aec_bits.proofs.bit_reader.seen_words.seen_sequences.Goals as goal

pub sequences_within-requires-clause-size : goal.sequences_within-requires-clause-size
sequences_within-requires-clause-size c =
    omega (arith, left_of_word c.args.word c.args.gone c.window_after-rest.result.left c.window_after-rest.result.word c.window_after-rest.ensures.rest)

pub place_of-requires : goal.place_of-requires
place_of-requires c =
    let rest = c.window_after-rest in
    let next = c.sequences_within in
    (sequences_from_word c.args.buf.now.list c.args.start c.args.gone c.args.word next.new.numbers rest.result.left rest.result.word rest.result.end
    next.result.left next.result.word next.result.end (record { there = c.requires.there; bits = c.requires.word }) c.requires.within
    (omega (arith, c.requires.inside)) rest.ensures.rest (omega (arith, rest.ensures.end, c.from.ensures)) next.ensures.end next.ensures.fits
    next.ensures.put.stand).2

pub returns-clause-read : goal.returns-clause-read
returns-clause-read c =
    let rest = c.window_after-rest in
    let next = c.sequences_within in
    let read = sequences_from_word c.args.buf.now.list c.args.start c.args.gone c.args.word next.new.numbers rest.result.left rest.result.word rest.result.end
    next.result.left next.result.word next.result.end (record { there = c.requires.there; bits = c.requires.word }) c.requires.within
    (omega (arith, c.requires.inside)) rest.ensures.rest (omega (arith, rest.ensures.end, c.from.ensures)) next.ensures.end next.ensures.fits
    next.ensures.put.stand in
    rw c.place_of.ensures (read.0, read.1)
