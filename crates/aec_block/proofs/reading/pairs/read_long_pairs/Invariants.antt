use Rattle.std.proofs.Common.{◌≡◌, ◌-◌, ◌*◌, ◌/◌, ◌&&◌, ◌==◌, length, take}
use Rattle.aec_block.specs.ReadAt.{map_taken, members_at}
use Rattle.aec_block.specs.Gathering.{bits_at, kept_members, small_members}
use Rattle.aec_block.proofs.GatheringLemmas.{HasMoved, members_gathered}
use Rattle.aec_block.proofs.reading.pairs.read_long_pairs.Given as goal

abbrev pub invariant-loop-i : goal.invariant-loop-i
invariant-loop-i l = record {
  moved : HasMoved l.fn.reader l.reader;
  placed : l.values ≡ kept_members l.is_ref l.values;
  len : length l.values ≡ length l.fn.values;
  taken : map_taken (small_members l.limit l.is_ref) (members_at (length l.fn.values / 2) (bits_at l.fn.reader))
      ≡ map_taken (members_gathered l.limit (take (2 * l.i) l.values) l.fit (l.is_ref && (l.i == 0)))
      (members_at (length l.fn.values / 2 - l.i) (bits_at l.reader));
}
