use Rattle.std.proofs.Common.{arith}
use Rattle.aec_block.proofs.LowWordLemmas.{longer_fits, longer_low_word, lows_below, eight_low_word}
use Rattle.aec_block.proofs.writing.joined_low_parts.low_word.Goals as goal

pub overflow_add-word : goal.overflow_add-word
overflow_add-word c =
    longer_fits c.args.width c.loop-i.i c.args.values.now c.low_part.result c.loop-i.word (omega arith) c.requires.few c.low_part.ensures.fits
    c.loop-i.invariant

pub loop-i-preserved : goal.loop-i-preserved
loop-i-preserved c =
    longer_low_word c.args.width c.loop-i.i c.args.values.now c.low_part.result c.loop-i.word (omega arith) c.requires.few c.low_part.ensures.fits
    c.loop-i.invariant c.low_part.ensures.value

pub joined_eight-requires-clause-small : goal.joined_eight-requires-clause-small
joined_eight-requires-clause-small c = lows_below c.args.width c.args.values.now _ c.low_parts_of.ensures

pub returns-then-values-eq8 : goal.returns-then-values-eq8
returns-then-values-eq8 c =
    eight_low_word c.args.width _ c.args.values.now _ _ (omega (arith, c.if-values-eq8.true)) c.low_parts_of.ensures c.joined_eight.ensures
