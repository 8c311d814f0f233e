use Rattle.std.proofs.Common.{◌+◌, ◌-◌, ◌*◌, ℕ, arith}
use Rattle.aec_block.proofs.HighWordLemmas.{high_parts-group}
use Rattle.aec_block.proofs.ThreeSumsLemmas.{part-small}
use Rattle.aec_block.proofs.WritingLemmas.{gathering-more}
use Rattle.aec_block.proofs.writing.high_parts.put_high_eights.Goals as goal

pub put_high_eight-gathered-requires-clause-lanes : goal.put_high_eight-gathered-requires-clause-lanes
put_high_eight-gathered-requires-clause-lanes c = record {
  k_below = c.requires.lanes.k_below;
  small = part-small c.args.k (8 * c.loop-i.i + 8 - 8 * c.loop-i.i) (8 * c.loop-i.i) c.args.values.now c.requires.lanes.small;
}

pub loop-i-preserved : goal.loop-i-preserved
loop-i-preserved c =
    let at : ℕ = 8 * c.loop-i.i in
    gathering-more _ _ _ _ _ _ _ _ _ c.loop-i.invariant
    (high_parts-group c.args.k 8 (at + 8 - at) at (8 * (c.loop-i.i + 1)) c.args.values.now (omega arith) (omega arith))
    c.put_high_eight-gathered.ensures
