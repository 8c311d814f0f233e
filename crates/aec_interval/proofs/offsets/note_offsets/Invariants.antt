use Rattle.std.proofs.Common.{◌-◌}
use Rattle.aec_params.specs.Limits.{most_blocks}
use Rattle.aec_interval.proofs.NotingLemmas.{HasNoted}
use Rattle.aec_interval.proofs.offsets.note_offsets.Given as goal

abbrev pub invariant-loop-offsets : goal.invariant-loop-offsets
invariant-loop-offsets l = record {
  noted : HasNoted l.params l.fn.reader.count l.fn.reader.limit l.fn.reader.bits l.reader l.offsets.items;
}

abbrev pub decreases-loop-offsets : goal.decreases-loop-offsets
decreases-loop-offsets l = most_blocks - l.reader.block
