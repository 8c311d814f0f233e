use Rattle.std.proofs.Common.{◌≡◌, ◌*◌, take}
use Rattle.std.specs.Int.{w64}
use Rattle.std.specs.List.{flat_map}
use Rattle.byteorder.specs.Endian.{low_bytes}
use Rattle.aec_params.proofs.stored_lists.put_each.Given as goal

-- the bytes of the samples so far are written
abbrev pub invariant-loop-i : goal.invariant-loop-i
invariant-loop-i g l = take (l.width * l.i) l.out ≡ flat_map (λ x. g.T.ByteOrder.bytes_of l.width (low_bytes w64 l.width x)) (take l.i l.samples)
