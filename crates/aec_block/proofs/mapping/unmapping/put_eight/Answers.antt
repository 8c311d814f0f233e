use Rattle.aec_block.proofs.NearLemmas.{AreNear-eight, near_places-eight}
use Rattle.aec_block.proofs.ParityLemmas.{parities-eight}
use Rattle.aec_block.proofs.mapping.unmapping.put_eight.Goals as goal

pub put_places-requires-clause-places : goal.put_places-requires-clause-places
put_places-requires-clause-places c =
    parities-eight c.args.params.now c.args.offset c.args.values.now _ _ _ c.greatest_offset-top.ensures.allowed
    (c.are_below_two.ensures.offset c.if-are_below_two.true) c.requires.eight (c.are_below_two.ensures.values c.if-are_below_two.true)
    c.near_differences-differences.ensures (c.next_places-places.ensures c.args.offset c.running_places-before.ensures) c.parities.ensures

pub put_places-requires-then-are_near-clause-places : goal.put_places-requires-then-are_near-clause-places
put_places-requires-then-are_near-clause-places c =
    let near = AreNear-eight c.args.params.now c.args.offset _ c.args.values.now _ _ c.greatest_offset-top.ensures.allowed c.greatest_offset-top.ensures.value
    c.requires.can.within c.requires.eight c.near_differences-differences.ensures c.running_places-before.ensures (c.are_near.ensures c.if-are_near.true) in
    near_places-eight c.args.params.now c.args.offset c.args.values.now _ _ c.greatest_offset-top.ensures.allowed c.requires.can.within near
    c.near_differences-differences.ensures (c.next_places-places.ensures c.args.offset c.running_places-before.ensures)
