use Rattle.std.proofs.Common.{◌≡◌, ◌<◌, ◌≤◌, ◌%◌, ◌-◌, max, length, true}
use Rattle.aec_params.specs.Params.{interval_len}
use Rattle.aec_params.specs.Limits.{most_blocks}
use Rattle.aec_interval.specs.Pieces.{is_wanted_at}
use Rattle.aec_engine.specs.ReadingTwice.{ReadsOn}
use Rattle.aec_engine.proofs.engine.loading.next_intervals.Given as goal

abbrev pub invariant-loop-reader : goal.invariant-loop-reader
invariant-loop-reader l = record {
  reads : ReadsOn l.fn.reader l.samples.items l.reader;
  few : l.reader.block < most_blocks;
  at_once : length l.samples.items ≤ max 2048 (interval_len l.fn.params);
  ends : is_wanted_at l.reader ≡ true → l.reader.block % l.reader.settings.interval ≡ 0;
}

abbrev pub decreases-loop-reader : goal.decreases-loop-reader
decreases-loop-reader l = most_blocks - l.reader.block
