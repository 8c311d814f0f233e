use Rattle.std.proofs.Common.{arith, ◌<◌, length}
use Rattle.aec_block.proofs.HighWordLemmas.{high-below, goes_on-more}
use Rattle.aec_block.proofs.writing.joined_high_parts.with_each.Goals as goal

pub overflow_shl-word : goal.overflow_shl-word
overflow_shl-word c =
    let within : c.loop-v.v-index < length c.args.values.now = omega arith in
    high-below c.args.k c.loop-v.v-index c.args.values.now within c.requires.few

pub loop-v-preserved : goal.loop-v-preserved
loop-v-preserved c = λ used fits low.
    let within : c.loop-v.v-index < length c.args.values.now = omega arith in
    goes_on-more c.args.k used c.args.word c.loop-v.v-index c.args.values.now c.loop-v.word within fits (c.loop-v.invariant used fits low)
