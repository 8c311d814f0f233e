use Rattle.std.proofs.Common.{◌≡◌, ◌+◌, ◌++◌, pos, replicate, vec_len, vec_capacity}
use Rattle.aec_interval.proofs.reading.samples.push_places.Given as goal

abbrev pub invariant-loop-i : goal.invariant-loop-i
invariant-loop-i l = record {
  items : l.samples.items ≡ l.initial.samples.items ++ replicate l.i (pos 0);
  len : vec_len l.samples ≡ vec_len l.initial.samples + l.i;
  capacity : vec_capacity l.samples ≡ vec_capacity l.initial.samples;
}
