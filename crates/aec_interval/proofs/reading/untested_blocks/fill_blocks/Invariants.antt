use Rattle.std.proofs.Common.{◌-◌, ◌+◌, ◌*◌, ◌≡◌, ◌≤◌, take, length}
use Rattle.aec_interval.specs.UntestedBlocks.{ReadsBlocks}
use Rattle.aec_interval.proofs.reading.untested_blocks.fill_blocks.Given as goal

abbrev pub invariant-loop-count : goal.invariant-loop-count
invariant-loop-count g l = record {
  reads : ReadsBlocks l.params l.place l.count l.fn.reader (take l.from l.fn.samples) l.reader (take l.at l.samples);
  within : l.count ≤ l.most;
  at : l.at ≡ l.from + l.count * l.params.block_size;
  values : length l.values ≡ l.params.block_size;
  len : length l.samples ≡ length l.fn.samples;
}

abbrev pub decreases-loop-count : goal.decreases-loop-count
decreases-loop-count g l = l.most - l.count
