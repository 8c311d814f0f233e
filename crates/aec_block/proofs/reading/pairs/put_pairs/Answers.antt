use Rattle.std.proofs.Common.{◌∙◌, arith}
use Rattle.aec_block.proofs.PairTableLemmas.{row_put, all_put}
use Rattle.aec_block.proofs.reading.pairs.put_pairs.Goals as goal

pub loop-i-preserved : goal.loop-i-preserved
loop-i-preserved c =
    row_put c.args.numbers.now c.loop-i.values c.short_pair-pair.result c.loop-i.i (c.loop-i.auto.values ∙ c.requires.len) c.loop-i-test.true
    c.short_pair-pair.ensures c.loop-i.invariant

pub returns : goal.returns
returns c =
    all_put c.args.numbers.now c.loop-i.values c.loop-i.i (c.loop-i.auto.values ∙ c.requires.len) (omega arith) c.loop-i.invariant
