use Rattle.std.proofs.Common.{rules, ◌≡◌, length}
use Rattle.aec_block.proofs.EightOffsetsLemmas.{eight_mapped}
use Rattle.aec_block.proofs.mapping.eight_offsets.map_eight.Goals as goal

pub returns : goal.returns
returns c =
    let eight : length c.args.offsets.now ≡ 8 = search rules in
    let eight_result : length c.differences_of-2.result ≡ 8 = search rules in
    eight_mapped c.args.top c.args.previous c.args.offsets.now c.predictions-before.result c.greater_of-above.result c.lesser_of.result
    c.differences_of-distances.result c.differences_of.result c.lesser_of-below.result c.rooms_at.result c.sums_of.result c.lesser_of-reached.result
    c.sums_of-2.result c.differences_of-2.result c.ranges.top.fits c.requires.0 c.requires.1 eight eight_result
    c.predictions-before.ensures c.greater_of-above.ensures c.lesser_of.ensures c.differences_of-distances.ensures c.differences_of.ensures
    c.lesser_of-below.ensures c.rooms_at.ensures c.sums_of.ensures c.lesser_of-reached.ensures c.sums_of-2.ensures c.differences_of-2.ensures
