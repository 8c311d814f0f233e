use Rattle.std.proofs.Common.{◌≡◌, length}
use Rattle.aec_engine.specs.ScriptLines.{after_listed}
use Rattle.aec_engine.specs.EditsAhead.{AreAhead, left_in}
use Rattle.aec_engine.proofs.script_edits.EditsAhead.take_some.Given as goal

abbrev pub invariant-loop-some : goal.invariant-loop-some
invariant-loop-some l = record {
  ahead : AreAhead l.self;
  same : left_in l.fn.self ≡ after_listed l.some.edits.items l.some.lines.items (left_in l.self);
  counted : length l.some.edits.items ≡ length l.some.lines.items;
}

abbrev pub decreases-loop-some : goal.decreases-loop-some
decreases-loop-some l = length (left_in l.self).edits
