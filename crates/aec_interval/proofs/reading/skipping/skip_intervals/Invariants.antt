use Rattle.std.proofs.Common.{◌≡◌, ◌-◌, ◌<◌, ◌≤◌, true}
use Rattle.aec_params.specs.Reading.{is_wanted}
use Rattle.aec_params.specs.Limits.{most_blocks}
use Rattle.aec_interval.specs.Skipping.{IsLedTo}
use Rattle.aec_interval.proofs.reading.skipping.skip_intervals.Given as goal

abbrev pub invariant-loop-wanted : goal.invariant-loop-wanted
invariant-loop-wanted l = record {
  led : IsLedTo l.params l.wanted.count l.wanted.limit l.fn.reader.list l.wanted.first l.wanted.start l.block l.reader.pos;
  list : l.reader.list ≡ l.fn.reader.list;
  after : l.wanted.first ≤ l.block;
  few : l.block < most_blocks;
  begun : l.block ≡ l.wanted.first → is_wanted l.params l.wanted.count l.fn.reader.list l.block l.reader.pos ≡ true;
}

abbrev pub decreases-loop-wanted : goal.decreases-loop-wanted
decreases-loop-wanted l = most_blocks - l.block
