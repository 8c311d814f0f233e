use Rattle.std.proofs.Common.{◌+◌, ◌-◌, ◌*◌, ℕ, arith}
use Rattle.aec_block.proofs.EightOffsetsLemmas.{mapped-eight_more}
use Rattle.aec_block.proofs.mapping.mapped_blocks.map_by_eights.Goals as goal

pub loop-i-preserved : goal.loop-i-preserved
loop-i-preserved c =
    let at : ℕ = 8 * c.loop-i.i in
    mapped-eight_more c.args.top c.args.previous c.loop-i.p at (at + 8 - at) (8 * (c.loop-i.i + 1)) c.map_next_eight-p.result c.args.values.now
    c.loop-i.values c.map_next_eight-p.new.values c.loop-i.invariant (omega arith) (omega arith) (omega (arith, c.loop-i.invariant.len))
    c.map_next_eight-p.ensures.values c.map_next_eight-p.ensures.last
