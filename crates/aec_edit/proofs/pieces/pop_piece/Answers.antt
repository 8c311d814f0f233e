use Rattle.std.proofs.Common.{arith}
use Rattle.aec_edit.specs.Pieces.{places_after}
use Rattle.aec_edit.proofs.PieceLemmas.{taken_next}
use Rattle.aec_edit.proofs.pieces.pop_piece.Goals as goal

pub loop-after-preserved : goal.loop-after-preserved
loop-after-preserved c =
    taken_next (places_after c.args.after.now.items) c.loop-after.piece c.in-Some.next c.loop-after.after.items c.pop.new.self.items
    (omega (arith, c.len.ensures, c.loop-after-test.true)) c.loop-after.invariant c.in-Some.ensures.items
