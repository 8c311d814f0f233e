use Rattle.std.proofs.Common.{◌≡◌, ◌+◌, ◌-◌, ◌%◌, ◌<◌}
use Rattle.aec_interval.specs.Steps.{SkipsBlocks}
use Rattle.aec_interval.proofs.reading.skipping.skip_singles.Given as goal

abbrev pub invariant-loop-count : goal.invariant-loop-count
invariant-loop-count l = record {
  skips : SkipsBlocks l.params l.place l.most l.fn.reader l.count l.reader;
  at : l.at ≡ (l.place + l.count) % l.params.interval;
  within : l.at < l.params.interval;
}

abbrev pub decreases-loop-count : goal.decreases-loop-count
decreases-loop-count l = l.most - l.count
