use Rattle.std.proofs.Common.{◌-◌}
use Rattle.aec_params.specs.Limits.{most_blocks}
use Rattle.aec_engine.proofs.ReadTwiceLemmas.{CountsSoFar, IsNoted}
use Rattle.aec_engine.proofs.engine.two_readings.judge_from.Given as goal

abbrev pub invariant-loop-len : goal.invariant-loop-len
invariant-loop-len l = record {
  counts : CountsSoFar l.fn.reader l.reader l.total;
  noted : IsNoted l.fn.reader l.begin.place.block l.begin.place.bit l.begin.before l.first;
}

abbrev pub decreases-loop-len : goal.decreases-loop-len
decreases-loop-len l = most_blocks - l.reader.block
