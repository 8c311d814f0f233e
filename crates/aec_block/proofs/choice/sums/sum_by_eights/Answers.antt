use Rattle.std.proofs.Common.{arith}
use Rattle.aec_block.proofs.LanesLemmas.{eight_more}
use Rattle.aec_block.proofs.choice.sums.sum_by_eights.Goals as goal

pub loop-i-preserved : goal.loop-i-preserved
loop-i-preserved c =
    let more = eight_more c.args.k c.loop-i.i c.args.values.now in
    (c.added_lanes-sums.ensures.len, omega arith, omega arith)
