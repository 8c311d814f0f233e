use Rattle.std.proofs.Common.{◌-◌, ◌^◌, ◌∙◌, arith}
use Rattle.aec_block.proofs.JoiningLemmas.{joined_front-next, joined_front-high, joined_front-all}
use Rattle.aec_block.proofs.reading.values.join.Goals as goal

pub joined-requires-clause-high : goal.joined-requires-clause-high
joined-requires-clause-high c =
    joined_front-high (2 ^ (32 - c.args.k)) c.args.k c.loop-i.i c.loop-i.values c.args.values.now c.args.lows.now c.loop-i.invariant
    (omega arith) c.requires.highs

pub loop-i-preserved : goal.loop-i-preserved
loop-i-preserved c =
    joined_front-next c.args.k c.loop-i.i c.joined.result c.loop-i.values c.args.values.now c.args.lows.now c.loop-i.invariant (omega arith)
    c.requires.len c.joined.ensures

pub returns : goal.returns
returns c =
    c.loop-i.invariant ∙ joined_front-all c.args.k c.loop-i.i c.args.values.now c.args.lows.now c.requires.len (omega arith)
