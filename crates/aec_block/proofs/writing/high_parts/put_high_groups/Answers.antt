use Rattle.std.proofs.Common.{◌+◌, ◌-◌, ◌*◌, ◌/◌, ◌++◌, List, ℕ, arith, length, take, drop, refl, length-append}
use Rattle.aec_block.specs.Written.{high_parts}
use Rattle.aec_block.proofs.HighWordLemmas.{high_parts-group}
use Rattle.aec_block.proofs.ThreeSumsLemmas.{part-small}
use Rattle.aec_block.proofs.WritingLemmas.{gathering-more, room-for_next}
use Rattle.aec_block.proofs.writing.high_parts.put_high_groups.Goals as goal

pub put_high_sixteen-gathered-requires-clause-lanes : goal.put_high_sixteen-gathered-requires-clause-lanes
put_high_sixteen-gathered-requires-clause-lanes c = record {
  k_below = c.requires.lanes.k_below;
  small = part-small c.args.k (16 * c.loop-i.i + 16 - 16 * c.loop-i.i) (16 * c.loop-i.i) c.args.values.now c.requires.lanes.small;
}

pub put_high_sixteen-gathered-requires-clause-room : goal.put_high_sixteen-gathered-requires-clause-room
put_high_sixteen-gathered-requires-clause-room c =
    let at : ℕ = 16 * c.loop-i.i in
    let next : ℕ = 16 * (c.loop-i.i + 1) in
    let values : List ℕ = c.args.values.now in
    let group : List ℕ = take (at + 16 - at) (drop at values) in
    let room =
    room-for_next c.args.out.now c.loop-i.out (c.args.gathered ++ high_parts c.args.k values) c.loop-i.gathered (high_parts c.args.k (drop at values))
    (high_parts c.args.k group) (high_parts c.args.k (drop next values)) (length (high_parts c.args.k group)) c.loop-i.invariant c.requires.room
    (high_parts-group c.args.k 16 (at + 16 - at) at next values (omega arith) (omega arith)) refl in
    omega (arith, room, length-append c.loop-i.gathered (high_parts c.args.k group))

pub loop-i-preserved : goal.loop-i-preserved
loop-i-preserved c =
    let at : ℕ = 16 * c.loop-i.i in
    gathering-more _ _ _ _ _ _ _ _ _ c.loop-i.invariant
    (high_parts-group c.args.k 16 (at + 16 - at) at (16 * (c.loop-i.i + 1)) c.args.values.now (omega arith) (omega arith))
    c.put_high_sixteen-gathered.ensures

pub put_high_eights-requires-clause-lanes : goal.put_high_eights-requires-clause-lanes
put_high_eights-requires-clause-lanes c =
    let whole : ℕ = 16 * (length c.args.values.now / 16) in
    record {
      k_below = c.requires.lanes.k_below;
      small = part-small c.args.k (length c.args.values.now - whole) whole c.args.values.now c.requires.lanes.small;
    }
