use Rattle.std.proofs.Common.{◌≡◌, ◌-◌, ◌<◌, ◌≤◌, Some, [], length, take, vec_capacity}
use Rattle.aec_params.specs.Params.{interval_len}
use Rattle.aec_params.specs.Limits.{most_blocks}
use Rattle.aec_engine.proofs.PutRangeLemmas.{PutsSoFar}
use Rattle.aec_engine.proofs.engine.into_buffers.fill_range.Given as goal

abbrev pub invariant-loop-left : goal.invariant-loop-left
invariant-loop-left l = record {
  puts : PutsSoFar l.fn.reader l.reader l.params l.fn.part.first l.fn.part.len l.skip l.left (Some []) (Some (take l.at l.out)) [];
  within : l.at ≤ length l.out;
  whole : length l.out ≡ length l.fn.out;
  few : l.left ≤ l.fn.part.len;
  room : 0 < l.fn.part.len → interval_len l.params ≤ vec_capacity l.samples;
}

abbrev pub decreases-loop-left : goal.decreases-loop-left
decreases-loop-left l = most_blocks - l.reader.block
