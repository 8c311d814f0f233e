use Rattle.std.proofs.Common.{arith, sym, ◌∙◌}
use Rattle.std.proofs.lemmas.List.{take_rest, length-drop}
use Rattle.aec_bits.proofs.DeviceLemmas.{Appends_more}
use Rattle.aec_bits.proofs.writing.put_all.Goals as goal

pub loop-done-preserved : goal.loop-done-preserved
loop-done-preserved g c = record {
  within = let bound = rw (take_rest, length-drop) at c.in_ok-done.ensures.bound in omega arith;
  bytes = Appends_more _ _ _ c.args.piece.now c.loop-done.done c.in_ok-done.field-0 c.loop-done.invariant.bytes (rw take_rest at c.in_ok-done.ensures.bytes);
  begun = c.in_ok-done.ensures.count ∙ c.loop-done.invariant.begun;
  order = c.in_ok-done.ensures.order ∙ c.loop-done.invariant.order;
  failures = c.in_ok-done.ensures.failure.1 ∙ sym c.in_ok-done.ensures.failure.0 ∙ c.loop-done.invariant.failures;
  refuses = λ _. sym c.loop-done.invariant.failures ∙ c.in_ok-done.ensures.failure.0;
}
