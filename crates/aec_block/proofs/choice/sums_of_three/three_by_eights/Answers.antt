use Rattle.std.proofs.Common.{◌+◌, ◌*◌, arith}
use Rattle.aec_block.proofs.LanesLemmas.{eight_more}
use Rattle.aec_block.proofs.ThreeSumsLemmas.{eight_more-fits, less-small, two_less-small, front-small}
use Rattle.aec_block.proofs.choice.sums_of_three.three_by_eights.Goals as goal

pub small_added-first-requires-clause-fits : goal.small_added-first-requires-clause-fits
small_added-first-requires-clause-fits c = omega (arith, eight_more-fits c.args.k c.loop-i.i c.args.values.now c.requires.small)

pub small_added-second-requires-clause-fits : goal.small_added-second-requires-clause-fits
small_added-second-requires-clause-fits c =
    omega (arith, eight_more-fits (c.args.k + 1) c.loop-i.i c.args.values.now (less-small c.args.k c.args.values.now c.requires.small))

pub small_added-third-requires-clause-fits : goal.small_added-third-requires-clause-fits
small_added-third-requires-clause-fits c =
    omega (arith, eight_more-fits (c.args.k + 2) c.loop-i.i c.args.values.now (two_less-small c.args.k c.args.values.now c.requires.small))

pub small_sum-requires-2 : goal.small_sum-requires-2
small_sum-requires-2 c =
    let small = less-small c.args.k c.args.values.now c.requires.small in
    omega (arith, front-small (c.args.k + 1) (8 * c.loop-i.i) c.args.values.now small)

pub small_sum-requires-3 : goal.small_sum-requires-3
small_sum-requires-3 c =
    let small = two_less-small c.args.k c.args.values.now c.requires.small in
    omega (arith, front-small (c.args.k + 2) (8 * c.loop-i.i) c.args.values.now small)

pub loop-i-preserved : goal.loop-i-preserved
loop-i-preserved c =
    let first = eight_more c.args.k c.loop-i.i c.args.values.now in
    let second = eight_more (c.args.k + 1) c.loop-i.i c.args.values.now in
    let third = eight_more (c.args.k + 2) c.loop-i.i c.args.values.now in
    ((c.small_added-first.ensures.len, c.small_added-second.ensures.len, c.small_added-third.ensures.len), omega arith, omega arith, omega arith)
