use Rattle.std.proofs.Common.{◌-◌, arith}
use Rattle.aec_edit.specs.Pieces.{places_after}
use Rattle.aec_edit.proofs.PieceLemmas.{drops_more}
use Rattle.aec_edit.proofs.pieces.drop_next.Goals as goal

pub loop-left-preserved : goal.loop-left-preserved
loop-left-preserved c = record {
  few = omega (arith, c.loop-left.invariant.few);
  rest = drops_more c.in_ok-take_next.field-0 (places_after c.args.after.now.items) (places_after c.loop-left.after.items)
      (places_after c.take_next.new.after.items) c.args.len c.loop-left.left (c.loop-left.left - c.len.result) c.loop-left.invariant.few
      c.in_ok-take_next.ensures.few (omega (arith, c.len.ensures)) c.loop-left.invariant.rest c.in_ok-take_next.ensures.ok;
}
