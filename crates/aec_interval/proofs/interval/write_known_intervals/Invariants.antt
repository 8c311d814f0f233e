use Rattle.std.proofs.Common.{◌≡◌, ◌-◌, ◌*◌, ◌%◌, ◌<◌, ◌++◌}
use Rattle.std.specs.Slice.Iter.{chunks_rest, chunks_size}
use Rattle.aec_params.specs.Streams.{stream_of}
use Rattle.aec_interval.specs.Pending.{IsRun}
use Rattle.aec_interval.proofs.OneLoopLemmas.{StreamAt}
use Rattle.aec_interval.proofs.interval.write_known_intervals.Given as goal

abbrev pub invariant-loop-chunk : goal.invariant-loop-chunk
invariant-loop-chunk g l = record {
  can_next : (goal.iterator-loop-chunk g).can_next l.chunk-iterator;
  is_finite : (goal.iterator-loop-chunk g).is_finite l.chunk-iterator;
  size : chunks_size l.chunk-iterator ≡ l.params.block_size;
  inside : l.place < l.params.interval;
  is_run : IsRun l.params (l.place % 64) l.run;
  so_far : StreamAt l.params (64 - l.place % 64) (l.params.block_size * (l.params.interval - l.place)) l.preceding l.run l.start
      l.initial.out.list l.out.list (l.initial.out.list ++ stream_of l.params l.fn.samples) (chunks_rest l.chunk-iterator);
}
