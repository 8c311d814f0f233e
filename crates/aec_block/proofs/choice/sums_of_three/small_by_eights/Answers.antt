use Rattle.std.proofs.Common.{◌*◌, arith}
use Rattle.aec_block.proofs.LanesLemmas.{eight_more}
use Rattle.aec_block.proofs.ThreeSumsLemmas.{eight_more-fits, front-small}
use Rattle.aec_block.proofs.choice.sums_of_three.small_by_eights.Goals as goal

pub small_added-sums-requires-clause-fits : goal.small_added-sums-requires-clause-fits
small_added-sums-requires-clause-fits c = omega (arith, eight_more-fits c.args.k c.loop-i.i c.args.values.now c.requires.small)

pub small_sum-requires : goal.small_sum-requires
small_sum-requires c = omega (arith, front-small c.args.k (8 * c.loop-i.i) c.args.values.now c.requires.small)

pub loop-i-preserved : goal.loop-i-preserved
loop-i-preserved c =
    let more = eight_more c.args.k c.loop-i.i c.args.values.now in
    (c.small_added-sums.ensures.len, omega arith)
