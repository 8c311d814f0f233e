use Rattle.std.proofs.Common.{◌≡◌, ◌-◌}
use Rattle.aec_params.specs.Limits.{most_blocks}
use Rattle.aec_interval.specs.Skipping.{IsLedTo}
use Rattle.aec_interval.proofs.ReadIntervalLemmas.{IsInside}
use Rattle.aec_interval.proofs.reading.skipping.skip_interval.Given as goal

abbrev pub invariant-loop-block : goal.invariant-loop-block
invariant-loop-block l = record {
  led : IsLedTo l.params l.wanted.count l.wanted.limit l.fn.reader.list l.wanted.first l.wanted.start l.block l.reader.pos;
  list : l.reader.list ≡ l.fn.reader.list;
  inside : IsInside l.params l.wanted.count l.wanted.limit l.fn.reader.list l.wanted.first l.block l.reader.pos l.end;
}

abbrev pub decreases-loop-block : goal.decreases-loop-block
decreases-loop-block l = most_blocks - l.block
