use Rattle.std.proofs.Common.{◌≡◌, ◌<◌, ◌≤◌, ◌-◌}
use Rattle.aec_params.specs.Limits.{most_blocks}
use Rattle.aec_interval.specs.Reached.{IsReached}
use Rattle.aec_interval.proofs.reading.decode_list.Given as goal

abbrev pub invariant-loop-reader : goal.invariant-loop-reader
invariant-loop-reader l = record {
  reached : IsReached l.params l.wanted.count l.wanted.limit l.bits.list l.wanted.first l.wanted.start l.block l.reader.pos l.samples.items;
  list : l.reader.list ≡ l.bits.list;
  after : l.wanted.first ≤ l.block;
  few : l.block < most_blocks;
}

abbrev pub decreases-loop-reader : goal.decreases-loop-reader
decreases-loop-reader l = most_blocks - l.block
