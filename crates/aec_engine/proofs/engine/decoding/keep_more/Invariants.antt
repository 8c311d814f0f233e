use Rattle.std.proofs.Common.{◌≡◌, ◌-◌, ◌≤◌, vec_len, vec_capacity}
use Rattle.aec_params.specs.Limits.{most_blocks}
use Rattle.aec_engine.specs.ReadingTwice.{KeepsFront}
use Rattle.aec_engine.proofs.ReadTwiceLemmas.{place_from}
use Rattle.aec_engine.proofs.engine.decoding.keep_more.Given as goal

abbrev pub invariant-loop-reader : goal.invariant-loop-reader
invariant-loop-reader l = record {
  keeps : KeepsFront l.reader l.params l.kept l.bytes.items;
  same : l.reader ≡ place_from l.fn.reader l.reader.block l.reader.bit;
  few : vec_len l.bytes ≤ vec_capacity l.fn.bytes;
  room : vec_capacity l.fn.samples ≤ vec_capacity l.samples;
  buffer : vec_capacity l.fn.bytes ≤ vec_capacity l.bytes;
}

abbrev pub decreases-loop-reader : goal.decreases-loop-reader
decreases-loop-reader l = most_blocks - l.reader.block
