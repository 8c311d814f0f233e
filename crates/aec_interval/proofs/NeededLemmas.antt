-- Whether a sample count needs more blocks, computed without a division.
use Rattle.std.proofs.Common.{◌≡◌, ℕ, ◌*◌, ◌<◌, min, arith}
use Rattle.std.specs.Prelude.{nat_lt}
use Rattle.std.specs.Int.{div_ceil}

-- the product, capped at the greatest number of 64 bits, is below the count exactly if the count
-- needs more blocks
pub fewer-needed : (blocks size count : ℕ) → 0 < size → count < 18446744073709551616
    → nat_lt (min (blocks * size) 18446744073709551615) count ≡ nat_lt blocks (div_ceil count size)
fewer-needed blocks size count some small = grind arith
