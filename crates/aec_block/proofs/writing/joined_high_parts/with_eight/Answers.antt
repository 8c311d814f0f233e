use Rattle.std.proofs.Common.{◌%◌, ◌*◌, ◌+◌, ◌^◌, ◌<◌, arith, sym, subst, length, take, ℕ}
use Rattle.aec_block.specs.HighWords.{GoesOn}
use Rattle.aec_block.proofs.HighWordLemmas.{lane-shifted, high-below, goes_on-more}
use Rattle.aec_block.proofs.writing.joined_high_parts.with_eight.Goals as goal

pub overflow_shl-word : goal.overflow_shl-word
overflow_shl-word c =
    let within : c.loop-i.i < length c.args.values.now = omega arith in
    let is = lane-shifted c.args.k c.loop-i.i c.index.result.now _ c.args.values.now _ c.eight_highs-highs.ensures within c.index.ensures in
    subst (λ (h : ℕ). h < 64) (sym is) (high-below c.args.k c.loop-i.i c.args.values.now within c.requires.few.few)

pub loop-i-preserved : goal.loop-i-preserved
loop-i-preserved c = λ used fits low.
    let within : c.loop-i.i < length c.args.values.now = omega arith in
    let is = lane-shifted c.args.k c.loop-i.i c.index.result.now _ c.args.values.now _ c.eight_highs-highs.ensures within c.index.ensures in
    subst (λ (h : ℕ). GoesOn c.args.k used c.args.word (take (c.loop-i.i + 1) c.args.values.now) (c.loop-i.word * 2 ^ h % 2 ^ 64 * 2 % 2 ^ 64 + 1)) (sym is)
    (goes_on-more c.args.k used c.args.word c.loop-i.i c.args.values.now c.loop-i.word within fits (c.loop-i.invariant used fits low))
