use Rattle.std.proofs.Common.{arith, ◌∙◌}
use Rattle.aec_edit.specs.Pieces.{places_after}
use Rattle.aec_edit.proofs.PieceLemmas.{moved_forth, length-before}
use Rattle.aec_edit.proofs.pieces.Pieces.forth_to.Goals as goal

pub loop-self-preserved : goal.loop-self-preserved
loop-self-preserved c = record {
  same =
      moved_forth c.in_ok-piece.piece c.loop-self.self.before.items c.push.new.self.items (places_after c.loop-self.self.after.items)
      (places_after c.take_next.new.after.items) c.in_ok-push.ensures.items c.in_ok-piece.ensures.ok
      ∙ c.loop-self.invariant.same;
  cut = omega (
    arith,
    c.len.ensures,
    c.loop-self.invariant.cut,
    length-before c.in_ok-piece.piece c.loop-self.self.before.items c.push.new.self.items c.in_ok-push.ensures.items,
  );
  few = λ order. omega (arith, c.len.ensures, c.in_ok-piece.ensures.few, c.loop-self-test.true);
}
