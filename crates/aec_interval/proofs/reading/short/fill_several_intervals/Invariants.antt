use Rattle.std.proofs.Common.{◌-◌, ◌≡◌, ◌≤◌, ◌*◌, length, take}
use Rattle.aec_interval.specs.ShortIntervals.{ReadsWhole}
use Rattle.aec_interval.proofs.reading.short.fill_several_intervals.Given as goal

abbrev pub invariant-loop-count : goal.invariant-loop-count
invariant-loop-count l = record {
  reads : ReadsWhole l.params l.count l.fn.reader l.reader (take l.at l.samples);
  stays : l.count ≡ 0 → l.reader ≡ l.fn.reader;
  within : l.count ≤ l.most;
  place : l.at ≡ l.count * l.len;
  len : length l.samples ≡ length l.fn.samples;
}

abbrev pub decreases-loop-count : goal.decreases-loop-count
decreases-loop-count l = l.most - l.count
