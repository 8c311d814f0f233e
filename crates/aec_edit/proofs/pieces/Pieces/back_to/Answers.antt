use Rattle.std.proofs.Common.{arith, ◌∙◌}
use Rattle.aec_edit.proofs.PieceLemmas.{moved_back, length-before}
use Rattle.aec_edit.proofs.pieces.Pieces.back_to.Goals as goal

pub overflow_sub-self : goal.overflow_sub-self
overflow_sub-self c =
    omega (
      arith,
      c.len.ensures,
      c.loop-self.invariant.cut,
      length-before c.in-Some.piece c.pop.new.self.items c.loop-self.self.before.items c.in-Some.ensures.items,
    )

pub loop-self-preserved : goal.loop-self-preserved
loop-self-preserved c = record {
  same =
      moved_back c.in-Some.piece c.pop.new.self.items c.loop-self.self.before.items c.loop-self.self.after.items c.push.new.self.items
      c.in-Some.ensures.items c.in_ok-push.ensures.items
      ∙ c.loop-self.invariant.same;
  cut = omega (
    arith,
    c.len.ensures,
    c.loop-self.invariant.cut,
    length-before c.in-Some.piece c.pop.new.self.items c.loop-self.self.before.items c.in-Some.ensures.items,
  );
}
