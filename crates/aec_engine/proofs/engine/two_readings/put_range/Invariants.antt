use Rattle.std.proofs.Common.{◌≡◌, ◌+◌, ◌-◌, ◌*◌, ◌<◌, ◌≤◌, vec_len, vec_capacity}
use Rattle.aec_params.specs.Params.{interval_len}
use Rattle.aec_params.specs.Limits.{most_blocks}
use Rattle.aec_engine.proofs.PutRangeLemmas.{PutsSoFar}
use Rattle.aec_engine.proofs.engine.two_readings.put_range.Given as goal

abbrev pub invariant-loop-left : goal.invariant-loop-left
invariant-loop-left g l = record {
  puts : PutsSoFar l.fn.reader l.reader l.params l.fn.part.first l.fn.part.len l.skip l.left (g.W.Sink.taken l.fn.sink) (g.W.Sink.taken l.sink) l.bytes.items;
  begun : g.W.Sink.begun l.sink ≡ g.W.Sink.begun l.fn.sink;
  order : g.W.Sink.mark l.sink ≡ g.W.Sink.mark l.fn.sink;
  failures : g.W.Sink.failed l.sink ≡ g.W.Sink.failed l.fn.sink;
  waiting : vec_len l.bytes < 65536;
  room : interval_len l.params ≤ vec_capacity l.samples;
  buffer : 65536 + 4 * interval_len l.params ≤ vec_capacity l.bytes;
}

abbrev pub decreases-loop-left : goal.decreases-loop-left
decreases-loop-left g l = most_blocks - l.reader.block
