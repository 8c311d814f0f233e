use Rattle.std.proofs.Common.{◌%◌, ◌*◌, ◌+◌, ◌^◌, ◌<◌, ℕ, arith, sym, subst, take, drop, length, length-drop}
use Rattle.aec_block.specs.HighWords.{GoesOn}
use Rattle.aec_block.proofs.HighWordLemmas.{high-below, goes_on-more}
use Rattle.aec_block.proofs.SevenLemmas.{lane-of_seven, is_seven}
use Rattle.aec_block.proofs.writing.after_reference.high_word_of_seven.Goals as goal

pub overflow_shl-word : goal.overflow_shl-word
overflow_shl-word c =
    let rest = drop 1 c.args.all.now in
    let within : c.loop-i.i < length rest = omega (arith, length-drop 1 c.args.all.now, c.requires.len) in
    let is = lane-of_seven c.args.k c.loop-i.i c.index.result.now _ c.args.all.now _ c.eight_highs-highs.ensures c.requires.len (omega arith) c.index.ensures in
    subst (λ (h : ℕ). h < 64) (sym is) (high-below c.args.k c.loop-i.i rest within c.requires.few.few)

pub loop-i-preserved : goal.loop-i-preserved
loop-i-preserved c =
    let rest = drop 1 c.args.all.now in
    let within : c.loop-i.i < length rest = omega (arith, length-drop 1 c.args.all.now, c.requires.len) in
    let is = lane-of_seven c.args.k c.loop-i.i c.index.result.now _ c.args.all.now _ c.eight_highs-highs.ensures c.requires.len (omega arith) c.index.ensures in
    subst (λ (h : ℕ). GoesOn c.args.k 0 0 (take (c.loop-i.i + 1) rest) (c.loop-i.word * 2 ^ h % 2 ^ 64 * 2 % 2 ^ 64 + 1)) (sym is)
    (goes_on-more c.args.k 0 0 c.loop-i.i rest c.loop-i.word within (omega (arith, c.requires.few.few)) c.loop-i.invariant)

pub returns : goal.returns
returns c = is_seven c.args.k _ c.args.all.now c.loop-i.word c.requires.len (omega arith) c.loop-i.invariant
