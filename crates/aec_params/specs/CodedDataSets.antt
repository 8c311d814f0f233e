-- Coded data sets: what one is, and the bits that spell it.
use Rattle.std.specs.Prelude.{◌≡◌, ℕ, ◌+◌, ◌-◌, ◌*◌, ◌/◌, ◌%◌, ◌^◌, ◌<◌, Bool, true, false, nat_lt, if◌then◌else◌, Option, Some, None, List, [], ◌∷◌, ◌++◌, length, drop, ⊤}
use Rattle.std.specs.List.{flat_map, AllByRecursion, list_all}
use Rattle.aec_params.specs.declared.settings.Settings.{Settings}
use Rattle.aec_params.specs.Params.{id_len, split_count}
use Rattle.aec_params.specs.Codewords.{fs, binary}

-- what follows the identifier and the reference sample (§7; by one of four kinds. A run is the
-- number that its code spells)
pub data Body : Type 0 where
  -- no compression: the values
  uncompressed_values : List ℕ → Body
  -- second extension: the members of its pairs, also the one in the reference place
  value_pairs : List ℕ → Body
  -- sample splitting: k, and the values
  split_values : ℕ → List ℕ → Body
  -- a run of zero blocks: the number that its code spells
  zero_blocks : ℕ → Body

-- a coded data set: in an interval's first block, with preprocessing, it has a reference sample
-- (§7; a value, where the code writes or reads bits at once and never holds one)
pub record CodedDataSet : Type 0 where
  pub reference : Option ℕ
  pub body : Body

-- the number of a pair (§7; unbounded. The choice uses 64 bits and stops at a pair that adds up to
-- 2^16, writing uses 128 bits. Law `each_number_is_one_pair`)
abbrev pub pair_number : ℕ → ℕ → ℕ
pair_number a b = (a + b) * (a + b + 1) / 2 + b

-- the codewords of consecutive pairs (§7)
abbrev pub pair_bits : List ℕ → List Bool
pair_bits [] = []
pair_bits (a ∷ []) = []
pair_bits (a ∷ (b ∷ values)) = fs (pair_number a b) ++ pair_bits values

-- the identifier: that of the zero block and of the second extension has one bit more (§6; by its
-- number in L or L + 1 bits)
abbrev pub identifier : Settings → Body → List Bool
identifier s (uncompressed_values values) = binary (id_len s) (2 ^ id_len s - 1)
identifier s (value_pairs values) = binary (id_len s + 1) 1
identifier s (split_values k values) = binary (id_len s) (k + 1)
identifier s (zero_blocks m) = binary (id_len s + 1) 0

-- the reference sample in n bits, if there is one (§7)
abbrev pub reference_bits : Settings → Option ℕ → List Bool
reference_bits s None = []
reference_bits s (Some r) = binary s.bits r

-- the bits of a body: values in n bits, codewords of pairs, high parts and then low parts, or a
-- run's number (§7)
abbrev pub body_bits : Settings → Body → List Bool
body_bits s (uncompressed_values values) = flat_map (binary s.bits) values
body_bits s (value_pairs values) = pair_bits values
body_bits s (split_values k values) = flat_map (λ v. fs (v / 2 ^ k)) values
    ++ flat_map (λ v. binary k (v % 2 ^ k)) values
body_bits s (zero_blocks m) = fs m

-- the bits of a coded data set (§7; one function from a value to bits. Reading has no such
-- function: it is stated as the value with these bits)
abbrev pub cds_bits : Settings → CodedDataSet → List Bool
cds_bits s c = identifier s c.body ++ (reference_bits s c.reference ++ body_bits s c.body)

-- there is a reference sample exactly if one is due, and it fits n bits (§7)
abbrev pub HasReference : Settings → Bool → Option ℕ → Type 0
HasReference s true (Some r) = r < 2 ^ s.bits
HasReference s true None = ⊥
HasReference s false (Some r) = ⊥
HasReference s false None = ⊤

-- how many values of a block are written one by one (§7): J, and J - 1 in a reference block
abbrev pub written_count : Settings → Bool → ℕ
written_count s is_reference = if is_reference then s.block_size - 1 else s.block_size

-- a body of single values has `written_count` of them, a body of pairs as many members as a block
-- has values; values without compression fit n bits, and k belongs to an option (§7)
abbrev pub HasBody : Settings → Bool → Body → Type 0
HasBody s is_reference (uncompressed_values values) =
    (length values ≡ written_count s is_reference) × AllByRecursion (λ v. v < 2 ^ s.bits) values
HasBody s is_reference (value_pairs values) = length values ≡ s.block_size
HasBody s is_reference (split_values k values) = (k < split_count s) × (length values ≡ written_count s is_reference)
HasBody s is_reference (zero_blocks m) = ⊤

-- the shape of a coded data set, of a reference block or of another, whatever its values are (§7; k
-- may be n or more)
pub record HasShape (s : Settings) (is_reference : Bool) (c : CodedDataSet) : Type 0 where
  pub reference : HasReference s is_reference c.reference
  pub body : HasBody s is_reference c.body

-- the numbers that are judged: all values, but in a reference block not the first member of the
-- first pair (§12; a list, where the code skips that member)
abbrev pub judged_in : Option ℕ → Body → List ℕ
judged_in reference (uncompressed_values values) = values
judged_in None (value_pairs values) = values
judged_in (Some r) (value_pairs values) = drop 1 values
judged_in reference (split_values k values) = values
judged_in reference (zero_blocks m) = []

-- whether the values of a coded data set are at most 2^n - 1 (§12; judged once the set is
-- whole, while the code judges each value, or the sum of the high parts)
abbrev pub has_small_values : Settings → CodedDataSet → Bool
has_small_values s c = list_all (λ v. nat_lt v (2 ^ s.bits)) (judged_in c.reference c.body)
