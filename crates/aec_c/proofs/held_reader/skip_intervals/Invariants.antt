use Rattle.std.proofs.Common.{ℕ}
use Rattle.aec_engine.proofs.ReadTwiceLemmas.{CountsSoFar}
use Rattle.aec_c.specs.Standing.{IsOnWay}
use Rattle.aec_c.proofs.held_reader.skip_intervals.Given as goal

abbrev pub invariant-loop-left : goal.invariant-loop-left
invariant-loop-left l = record {
  counts : CountsSoFar l.fn.reader l.reader l.total;
  way : (k : ℕ) → IsOnWay k l.fn.intervals l.fn.reader → IsOnWay k l.left l.reader;
}

abbrev pub decreases-loop-left : goal.decreases-loop-left
decreases-loop-left l = l.left
