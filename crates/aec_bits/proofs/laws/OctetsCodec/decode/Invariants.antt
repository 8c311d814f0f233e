use Rattle.std.proofs.Common.{◌≡◌, ◌+◌, ◌*◌, ◌-◌, ◌≤◌, List, ◌++◌, ℤ, take, vec_len, vec_capacity}
use Rattle.aec_bits.specs.Codec.{BeginsAt}
use Rattle.aec_bits.specs.Octets.{octets}
use Rattle.aec_bits.proofs.laws.OctetsCodec.decode.Given as goal

abbrev pub invariant-loop-place : goal.invariant-loop-place
invariant-loop-place l = record {
  list : l.reader.list ≡ l.stream.list;
  place : l.reader.pos ≡ l.pos + 8 * l._place;
  room : vec_len l.out + (l.count - l._place) ≤ vec_capacity l.out;
  items : (s : List ℤ) → BeginsAt octets l.stream.list l.pos l.count s → l.out.items ≡ l.fn.out.items ++ take l._place s;
}
