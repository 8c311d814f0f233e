-- Ten values in the loops over eights, fours and pairs: groups, and a rest of two. Each value is
-- worked out by hand.
use Rattle.std.proofs.Common.{◌≡◌, ℕ, List, [], ◌∷◌, ◌++◌, true, pos, take, drop, map, replicate, refl, rules}
use Rattle.aec_params.specs.Codewords.{binary}
use Rattle.aec_params.specs.CodedDataSets.{pair_bits}
use Rattle.aec_params.proofs.WorkedSettings.{tens}
use Rattle.aec_block.specs.Lengths.{sum_of_shifted, split_values_length, pairs_length}
use Rattle.aec_block.specs.Written.{high_parts, low_parts}
use Rattle.aec_block.specs.ReadAt.{taken, members_at, split_at}
use Rattle.aec_block.specs.Offsets.{mapped_offsets}
use Rattle.aec_block.specs.Unmapping.{Unmaps}

abbrev ten_numbers : List ℕ
ten_numbers = 0 ∷ 1 ∷ 2 ∷ 3 ∷ 4 ∷ 5 ∷ 6 ∷ 7 ∷ 8 ∷ 9 ∷ []

-- ---- sums in lanes of eight, and the last two one by one: 12 and 8 without one low bit

pub sum_without_one_bit : sum_of_shifted 1 ten_numbers ≡ 20
sum_without_one_bit = refl

pub sum_in_lanes : sum_of_shifted 1 (take 8 ten_numbers) ≡ 12
sum_in_lanes = refl

pub sum_of_the_rest : sum_of_shifted 1 (drop 8 ten_numbers) ≡ 8
sum_of_the_rest = refl

-- the three sums from k = 0 on
pub three_sums_of_ten : map (λ k. sum_of_shifted k ten_numbers) (0 ∷ 1 ∷ 2 ∷ []) ≡ 45 ∷ 20 ∷ 8 ∷ []
three_sums_of_ten = refl

pub lengths_with_k : map (λ k. split_values_length k ten_numbers) (0 ∷ 1 ∷ 2 ∷ 3 ∷ []) ≡ 55 ∷ 40 ∷ 38 ∷ 42 ∷ []
lengths_with_k = refl

-- ---- codewords of eight values and of the last two: 1111 01 01 01 01, 001 001

pub high_parts_in_a_word : high_parts 2 ten_numbers ≡ binary 18 0x3D549
high_parts_in_a_word = refl

pub high_parts_of_the_rest : high_parts 2 (drop 8 ten_numbers) ≡ binary 6 0x9
high_parts_of_the_rest = refl

-- ---- low bits of eight, four and two values at a time, and of the rest: two of ten values, or one
-- of nine, as a reference block writes them

pub low_parts_by_eights : low_parts 2 ten_numbers ≡ binary 16 0x1B1B ++ binary 4 0x1
low_parts_by_eights = refl

pub low_parts_by_fours : low_parts 9 ten_numbers ≡ binary 36 0x40403 ++ (binary 36 0x20140C07 ++ binary 18 0x1009)
low_parts_by_fours = refl

pub low_parts_by_twos : low_parts 16 (take 9 ten_numbers)
    ≡ binary 32 0x00000001 ++ (binary 32 0x00020003 ++ (binary 32 0x00040005 ++ (binary 32 0x00060007 ++ binary 16 0x0008)))
low_parts_by_twos = refl

-- ---- five pairs: codewords of 3, 19, 51, 99 and 163 bits, or 1, 1, 00001, 1, 001

pub pairs_of_ten : pairs_length ten_numbers ≡ 335
pairs_of_ten = refl

abbrev spike : List ℕ
spike = replicate 4 0 ++ (1 ∷ 1 ∷ 0 ∷ 0 ∷ 0 ∷ 1 ∷ [])

pub five_pairs_written : pair_bits spike ≡ binary 11 0x619
five_pairs_written = refl

pub five_pairs_read : members_at 5 (binary 11 0x619 ++ (true ∷ [])) ≡ taken spike (true ∷ [])
five_pairs_read = refl

pub ten_split_values_read : split_at 2 10 (binary 18 0x3D549 ++ (binary 20 0x1B1B1 ++ (true ∷ []))) ≡ taken ten_numbers (true ∷ [])
ten_split_values_read = refl

-- ---- samples: eight near values and two more

pub ten_offsets_mapped : mapped_offsets 255 100 (102 ∷ 104 ∷ 106 ∷ 108 ∷ 110 ∷ 112 ∷ 114 ∷ 116 ∷ 114 ∷ 111 ∷ []) ≡ replicate 8 4 ++ (3 ∷ 5 ∷ [])
ten_offsets_mapped = refl

pub ten_samples : Unmaps (tens 1) (pos 100) (replicate 8 4 ++ (3 ∷ 5 ∷ [])) []
    (map pos (102 ∷ 104 ∷ 106 ∷ 108 ∷ 110 ∷ 112 ∷ 114 ∷ 116 ∷ 114 ∷ 111 ∷ []))
ten_samples = record {
  more = map pos (102 ∷ 104 ∷ 106 ∷ 108 ∷ 110 ∷ 112 ∷ 114 ∷ 116 ∷ 114 ∷ 111 ∷ []);
  appended = refl;
  held = search rules;
  mapped = refl;
}
