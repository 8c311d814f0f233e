-- Values in lanes: the offsets that near values lead to, and the low bits of eight values as one
-- number. Each value is worked out by hand.
use Rattle.std.proofs.Common.{◌≡◌, ◌+◌, ◌*◌, ◌^◌, [], ◌∷◌, map, refl, arith}
use Rattle.aec_block.specs.Offsets.{near_difference, places_before, places_after}
use Rattle.aec_block.proofs.LowWordLemmas.{SpellsEach}

-- 0, -1, 1, -2, 2 and -3
pub differences_of_near_values : map near_difference (0 ∷ 1 ∷ 2 ∷ 3 ∷ 4 ∷ 5 ∷ [])
    ≡ 0 ∷ 4294967295 ∷ 1 ∷ 4294967294 ∷ 2 ∷ 4294967293 ∷ []
differences_of_near_values = refl

-- from 250, by the differences 3, -1, 0 and -2
pub places_before_each : places_before 250 (3 ∷ 4294967295 ∷ 0 ∷ 4294967294 ∷ []) ≡ 250 ∷ 253 ∷ 252 ∷ 252 ∷ []
places_before_each = refl

pub places_after_each : places_after 250 (3 ∷ 4294967295 ∷ 0 ∷ 4294967294 ∷ []) ≡ 253 ∷ 252 ∷ 252 ∷ 250 ∷ []
places_after_each = refl

-- past both ends
pub places_past_the_ends : places_after 4294967295 (2 ∷ 4294967294 ∷ []) ≡ 1 ∷ 4294967295 ∷ []
places_past_the_ends = refl

-- 101 000 000 000 000 000 000 011
pub three_bits_each : SpellsEach 3 24 (5 ∷ 0 ∷ 0 ∷ 0 ∷ 0 ∷ 0 ∷ 0 ∷ 3 ∷ []) 0xA00003
three_bits_each = record { below = omega arith; bits = refl }

-- first the greatest number of seven bits, last a 1
pub seven_bits_each : SpellsEach 7 56 (127 ∷ 0 ∷ 0 ∷ 0 ∷ 0 ∷ 0 ∷ 0 ∷ 1 ∷ []) (127 * 2 ^ 49 + 1)
seven_bits_each = record { below = omega arith; bits = refl }
