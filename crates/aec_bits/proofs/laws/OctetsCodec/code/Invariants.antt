use Rattle.std.proofs.Common.{◌≡◌, ◌*◌, ◌-◌, ◌≤◌, ◌++◌, length, take}
use Rattle.std.specs.List.{flat_map}
use Rattle.aec_bits.specs.Octets.{octet_bits}
use Rattle.aec_bits.proofs.laws.OctetsCodec.code.Given as goal

abbrev pub invariant-loop-x : goal.invariant-loop-x
invariant-loop-x l = record {
  list : l.out.list ≡ l.fn.out.list ++ flat_map octet_bits (take l.x-index l.samples);
  room : 8 * (length l.samples - l.x-index) ≤ l.out.room;
}
