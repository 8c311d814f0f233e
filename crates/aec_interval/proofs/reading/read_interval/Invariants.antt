use Rattle.std.proofs.Common.{◌≡◌, ◌≤◌, ◌-◌, ◌*◌, vec_len, vec_capacity}
use Rattle.aec_params.specs.Limits.{most_blocks}
use Rattle.aec_interval.specs.Reached.{IsReached}
use Rattle.aec_interval.proofs.ReadIntervalLemmas.{IsInside}
use Rattle.aec_interval.proofs.reading.read_interval.Given as goal

abbrev pub invariant-loop-behind : goal.invariant-loop-behind
invariant-loop-behind l = record {
  reached : IsReached l.params l.wanted.count l.wanted.limit l.fn.reader.list l.wanted.first l.wanted.start l.block l.reader.pos l.samples.items;
  list : l.reader.list ≡ l.fn.reader.list;
  inside : IsInside l.params l.wanted.count l.wanted.limit l.fn.reader.list l.wanted.first l.block l.reader.pos l.end;
  len : vec_len l.samples ≤ (l.block - l.wanted.first) * l.params.block_size;
  capacity : vec_capacity l.fn.samples ≤ vec_capacity l.samples;
}

abbrev pub decreases-loop-behind : goal.decreases-loop-behind
decreases-loop-behind l = most_blocks - l.block
