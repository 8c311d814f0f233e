-- For proofs alone: no public contract cites this file.
-- What the private functions of `choice::lengths` compute: the length of each spelling of a block,
-- as a sum. The contract of `choose` cites `cds_bits` instead.
use Rattle.std.specs.Prelude.{◌≡◌, ℕ, ◌+◌, ◌*◌, ◌/◌, ◌^◌, ◌<◌, ◌≤◌, Option, Some, None, IfSome, IfNone, List, [], ◌∷◌, length}
use Rattle.std.specs.List.{sum_by, AllByRecursion}
use Rattle.std.specs.Simd.Lanes.{sum_l}
use Rattle.aec_params.specs.declared.settings.Settings.{Settings}
use Rattle.aec_params.specs.Params.{id_len}
use Rattle.aec_params.specs.Blocks.{Block}
use Rattle.aec_params.specs.CodedDataSets.{pair_number}
use Rattle.aec_params.specs.Spellings.{written_values}
use Rattle.aec_block.specs.declared.choice.splitting.Splitting.{Splitting}
use Rattle.aec_block.specs.declared.choice.sums_of_three.ThreeSums.{ThreeSums}
use Rattle.aec_block.specs.BlockShape.{most_values}

-- bits of the reference sample, if there is one
abbrev pub reference_len : Settings → Option ℕ → ℕ
reference_len s None = 0
reference_len s (Some r) = s.bits

-- bits of an identifier of the usual length and the reference sample
abbrev pub head_length : Settings → Option ℕ → ℕ
head_length s reference = id_len s + reference_len s reference

-- the sum of the values without their k low bits
abbrev pub sum_of_shifted : ℕ → List ℕ → ℕ
sum_of_shifted k values = sum_by (λ v. v / 2 ^ k) values

-- at most `most_values` values and a k below 32: the code can add them up without their k low bits
pub record CanSum (k : ℕ) (values : List ℕ) : Type 0 where
  pub k_below : k < 32
  pub len : length values ≤ most_values

-- the sum of the values without their k low bits, which is at most `most`
pub record IsSum (k : ℕ) (values : List ℕ) (most total : ℕ) : Type 0 where
  pub sum : total ≡ sum_of_shifted k values
  pub bound : total ≤ most

-- eight lanes that add up to `total`
pub record AddUpTo (lanes : List ℕ) (total : ℕ) : Type 0 where
  pub len : length lanes ≡ 8
  pub sum : sum_l lanes ≡ total

-- a k below 32 without whose low bits values add up to less than 2^32, so that lanes of 32 bits
-- can add them
pub record FitsLanes (k : ℕ) (values : List ℕ) : Type 0 where
  pub k_below : k < 32
  pub small : sum_of_shifted k values < 2 ^ 32

-- at most `most_values` values, all below 2^bits
pub record AreFewBelow (bits : ℕ) (values : List ℕ) : Type 0 where
  pub len : length values ≤ most_values
  pub below : AllByRecursion (λ v. v < 2 ^ bits) values

-- the sums of values without k, k + 1 and k + 2 low bits, each at most `most`
pub record AreThreeSums (k : ℕ) (values : List ℕ) (most : ℕ) (sums : ThreeSums) : Type 0 where
  pub first : IsSum k values most sums.first
  pub second : IsSum (k + 1) values most sums.second
  pub third : IsSum (k + 2) values most sums.third

-- all values of a block, and those that are written one by one: at most `most_values`, which add up
-- to the same
pub record HaveEqualSums (all values : List ℕ) : Type 0 where
  pub len_all : length all ≤ most_values
  pub len : length values ≤ most_values
  pub sums : (k : ℕ) → sum_of_shifted k all ≡ sum_of_shifted k values

-- bits of the values that are split with k: the codewords of what is left of them, and their k low
-- bits
abbrev pub split_values_length : ℕ → List ℕ → ℕ
split_values_length k values = sum_of_shifted k values + length values * (k + 1)

-- the k below a count with which the values have the fewest bits, and of equal ones the least
pub record IsBestSplit (count k : ℕ) (values : List ℕ) : Type 0 where
  pub within : k < count
  pub before : (j : ℕ) → j < k → split_values_length k values < split_values_length j values
  pub after : (j : ℕ) → k < j → j < count → split_values_length k values ≤ split_values_length j values

-- the k to begin with, at most `last`, for `count` values with the sum `total`: the sum is above
-- 3 * 2^j times the count for each j before it, and if k isn't the last, at most 3 * 2^k times
pub record IsFirstK (total count last k : ℕ) : Type 0 where
  pub within : k ≤ last
  pub before : (j : ℕ) → j < k → 3 * count * 2 ^ j < total
  pub there : k < last → total ≤ 3 * count * 2 ^ k

-- a k and the bits of values that are split with it, which are at most 2^40
pub record IsSplitLen (values : List ℕ) (split : Splitting) : Type 0 where
  pub bits : split.bits ≡ split_values_length split.k values
  pub bound : split.bits ≤ 2 ^ 40

-- bits of the codewords of consecutive pairs
abbrev pub pairs_length : List ℕ → ℕ
pairs_length [] = 0
pairs_length (a ∷ []) = 0
pairs_length (a ∷ (b ∷ values)) = pair_number a b + 1 + pairs_length values

-- `told` is the length, which is then at most `most`; or `None`, and then the length is above 2^31,
-- more than any uncompressed block has
pub record IsLengthIfShort (bits most : ℕ) (told : Option ℕ) : Type 0 where
  pub some : IfSome told (λ n. (n ≡ bits) × (n ≤ most))
  pub none : IfNone told (2 ^ 31 < bits)

-- bits of the spelling by no compression
abbrev pub uncompressed_length : Settings → Block → ℕ
uncompressed_length s b = head_length s b.reference + length (written_values b) * s.bits

-- bits of the spelling by the second extension
abbrev pub paired_length : Settings → Block → ℕ
paired_length s b = head_length s b.reference + 1 + pairs_length b.values

-- bits of the spelling by splitting with k
abbrev pub split_length : Settings → Block → ℕ → ℕ
split_length s b k = head_length s b.reference + split_values_length k (written_values b)
