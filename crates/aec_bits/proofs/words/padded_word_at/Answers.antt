use Rattle.std.proofs.Common.{refl, arith, ◌/◌, ◌+◌}
use Rattle.aec_bits.proofs.WindowLemmas.{padded_bits, padded_last}
use Rattle.aec_bits.proofs.words.padded_word_at.Goals as goal

pub returns-then-place-words : goal.returns-then-place-words
returns-then-place-words c =
    padded_bits c.args.words.now c.args.start _ _ c.requires (c.type_inv.words (c.args.start / 64 + 1)).fits refl refl

pub returns : goal.returns
returns c = padded_last c.args.words.now c.args.start c.word_or_zero.result c.requires (omega (arith, c.if-place-words.false)) c.word_or_zero.ensures
