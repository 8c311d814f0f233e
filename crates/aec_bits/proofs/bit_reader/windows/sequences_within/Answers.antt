use Rattle.std.proofs.Common.{length, arith, sym}
use Rattle.aec_bits.proofs.EndsLemmas.{window_sequences}
use Rattle.aec_bits.proofs.bit_reader.windows.sequences_within.Goals as goal

pub window_after-requires-clause-some : goal.window_after-requires-clause-some
window_after-requires-clause-some c =
    (window_sequences c.args.window.word c.args.window.left c.top_word.result (length c.args.numbers.now) c.gaps_within.result
    c.gaps_within.new.numbers c.requires.size c.requires.fits c.requires.some (omega (arith, c.if-numbers-lt8.false)) c.top_word.ensures.bits
    c.gaps_within.ensures.read).some

pub window_after-requires-clause-there : goal.window_after-requires-clause-there
window_after-requires-clause-there c =
    (window_sequences c.args.window.word c.args.window.left c.top_word.result (length c.args.numbers.now) c.gaps_within.result
    c.gaps_within.new.numbers c.requires.size c.requires.fits c.requires.some (omega (arith, c.if-numbers-lt8.false)) c.top_word.ensures.bits
    c.gaps_within.ensures.read).there

pub returns-clause-put : goal.returns-clause-put
returns-clause-put c =
    let read = window_sequences c.args.window.word c.args.window.left c.top_word.result (length c.args.numbers.now) c.gaps_within.result
    c.gaps_within.new.numbers c.requires.size c.requires.fits c.requires.some (omega (arith, c.if-numbers-lt8.false)) c.top_word.ensures.bits
    c.gaps_within.ensures.read in
    record { stand = rw (sym c.window_after.ensures.rest) at read.stand; len = c.gaps_within.ensures.len }
