use Rattle.std.proofs.Common.{◌≡◌, ◌+◌, ◌-◌, ◌<◌, ◌≤◌, length, drop}
use Rattle.aec_bits.specs.BitReader.{further, behind_ones}
use Rattle.aec_bits.proofs.bit_reader.counted_ones.bits_to_one.Given as goal

abbrev pub invariant-loop-place : goal.invariant-loop-place
invariant-loop-place l = record {
  order : l.start ≤ l.place;
  bound : l.place ≤ length l.buf.list + 64;
  some : 0 < l.left;
  same : behind_ones l.count (drop l.start l.buf.list) ≡ further (l.place - l.start) (behind_ones l.left (drop l.place l.buf.list));
}

abbrev pub decreases-loop-place : goal.decreases-loop-place
decreases-loop-place l = length l.buf.list + 64 - l.place
