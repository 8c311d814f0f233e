use Rattle.std.proofs.Common.{arith, ◌*◌, ◌/◌, length}
use Rattle.aec_block.proofs.HighWordLemmas.{few-eight, goes_on-eight, few-rest, is_high_word}
use Rattle.aec_block.proofs.writing.joined_high_parts.high_word.Goals as goal

pub with_eight-word-requires-clause-few : goal.with_eight-word-requires-clause-few
with_eight-word-requires-clause-few c =
    record { k_below = c.requires.k_below; few = few-eight c.args.k c.loop-i.i c.args.values.now c.requires.few }

pub loop-i-preserved : goal.loop-i-preserved
loop-i-preserved c =
    goes_on-eight c.args.k c.loop-i.i c.args.values.now c.loop-i.word c.with_eight-word.result c.requires.few c.loop-i.invariant c.with_eight-word.ensures

pub with_each-requires : goal.with_each-requires
with_each-requires c =
    record { k_below = c.requires.k_below; few = few-rest c.args.k (8 * (length c.args.values.now / 8)) c.args.values.now c.requires.few }

pub returns : goal.returns
returns c =
    is_high_word c.args.k _ (8 * c.loop-i.i) c.args.values.now c.loop-i.word c.with_each.result (omega arith)
    c.requires.few c.loop-i.invariant c.with_each.ensures
