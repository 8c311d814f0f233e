use Rattle.aec_engine.specs.CodingSteps.{IsFedSoFar, bytes_left}
use Rattle.aec_engine.proofs.engine.coding.encode.Given as goal

abbrev pub invariant-loop-bits : goal.invariant-loop-bits
invariant-loop-bits g l = IsFedSoFar l.params l.fn.limits.samples (g.R.Source.left l.initial.source) (g.R.Source.left l.source) l.bits.list l.coder

abbrev pub decreases-loop-bits : goal.decreases-loop-bits
decreases-loop-bits g l = bytes_left l.coder
