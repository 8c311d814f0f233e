use Rattle.std.proofs.Common.{◌≡◌, None}
use Rattle.aec_engine.specs.EditsAhead.{AreKnown, behind, unread}
use Rattle.aec_engine.proofs.script_edits.EditsAhead.advance.Given as goal

abbrev pub invariant-loop-number : goal.invariant-loop-number
invariant-loop-number l = record {
  none : l.self.next ≡ None;
  early : l.self.is_early ≡ l.initial.self.is_early;
  same : behind l.self ≡ behind l.initial.self;
  known : AreKnown l.self;
}

abbrev pub decreases-loop-number : goal.decreases-loop-number
decreases-loop-number l = unread l.self
