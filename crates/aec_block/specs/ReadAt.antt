-- What the private functions of reading compute, on lists of bits; the laws of `laws.rt` say that
-- it is the reading of coded data sets. Of the other public functions only `is_single_next`,
-- `read_single` and `read_single_first` cite this file, by `begins_single`.
use Rattle.std.specs.Prelude.{ℕ, zero, suc, ◌+◌, ◌-◌, ◌*◌, ◌/◌, ◌^◌, ◌==◌, nat_le, Bool, true, false, if◌then◌else◌, Option, Some, None, List, [], ◌∷◌, length, take, drop}
use Rattle.aec_params.specs.declared.settings.Settings.{Settings}
use Rattle.aec_params.specs.Params.{id_len}
use Rattle.aec_params.specs.Codewords.{bits_number}
use Rattle.aec_params.specs.CodedDataSets.{Body, uncompressed_values, value_pairs, split_values, zero_blocks, CodedDataSet, written_count}
use Rattle.aec_block.specs.declared.reading.Kind.{Kind}
use Rattle.aec_block.specs.declared.reading.Kind.TheVariants.{ZeroBlocks, SecondExtension, Split, NoCompression}

-- what begins a list of bits, with the bits after it; `nothing` if nothing of its kind begins it
pub data Taken (X : Type 0) : Type 0 where
  nothing : Taken X
  taken : X → List Bool → Taken X

-- what two readers in a row take: first one thing, then another that may depend on it
abbrev pub then_at : {X Y : Type 0} → Taken X → (X → List Bool → Taken Y) → Taken Y
then_at nothing next = nothing
then_at (taken x rest) next = next x rest

-- f of what was taken, with the same bits after it
abbrev pub map_taken : {X Y : Type 0} → (X → Y) → Taken X → Taken Y
map_taken f nothing = nothing
map_taken f (taken x rest) = taken (f x) rest

-- ---- codewords

-- the number of a fundamental sequence
abbrev pub fs_at : List Bool → Taken ℕ
fs_at [] = nothing
fs_at (true ∷ bits) = taken 0 bits
fs_at (false ∷ bits) = map_taken (λ v. v + 1) (fs_at bits)

-- the number of `width` bits
abbrev pub binary_at : ℕ → List Bool → Taken ℕ
binary_at width bits = if nat_le width (length bits) then taken (bits_number (take width bits)) (drop width bits)
    else nothing

-- n numbers in a row
abbrev pub values_at : (List Bool → Taken ℕ) → ℕ → List Bool → Taken (List ℕ)
values_at value_at zero bits = taken [] bits
values_at value_at (suc n) bits = then_at (value_at bits)
    (λ v rest. map_taken (λ values. v ∷ values) (values_at value_at n rest))

-- ---- the parts of a coded data set

-- the kind by the last bit of a longer identifier: the zero block or the second extension
abbrev pub kind_of_last : ℕ → Kind
kind_of_last last = if last == 0 then ZeroBlocks else SecondExtension

-- the kind of an identifier that is not the least: no compression, or splitting with k
abbrev pub kind_of_number : ℕ → ℕ → Kind
kind_of_number len number = if number == 2 ^ len - 1 then NoCompression else Split (number - 1)

-- the kind, after the number in the first bits of an identifier
abbrev pub kind_after : ℕ → ℕ → List Bool → Taken Kind
kind_after len number bits = if number == 0 then map_taken kind_of_last (binary_at 1 bits)
    else taken (kind_of_number len number) bits

-- the kind of the identifier that begins the bits (§6)
abbrev pub kind_at : ℕ → List Bool → Taken Kind
kind_at len bits = then_at (binary_at len bits) (kind_after len)

-- the reference sample, if one is due
abbrev pub reference_at : Settings → Bool → List Bool → Taken (Option ℕ)
reference_at s true bits = map_taken (λ r. Some r) (binary_at s.bits bits)
reference_at s false bits = taken None bits

-- the two members of a pair
pub record Pair : Type 0 where
  pub first : ℕ
  pub second : ℕ

-- the pair whose number is the next
abbrev pub pair_after : ℕ → ℕ → Pair
pair_after zero second = record { first = second + 1; second = 0 }
pair_after (suc first) second = record { first = first; second = second + 1 }

-- the pair after a pair
abbrev pub next_pair : Pair → Pair
next_pair p = pair_after p.first p.second

-- the pair of a number
abbrev pub pair_with_number : ℕ → Pair
pair_with_number zero = record { first = 0; second = 0 }
pair_with_number (suc m) = next_pair (pair_with_number m)

-- members after those of a pair
abbrev pub before_members : Pair → List ℕ → List ℕ
before_members p members = p.first ∷ (p.second ∷ members)

-- the members of n pairs
abbrev pub members_at : ℕ → List Bool → Taken (List ℕ)
members_at zero bits = taken [] bits
members_at (suc n) bits = then_at (fs_at bits)
    (λ m rest. map_taken (before_members (pair_with_number m)) (members_at n rest))

-- values from their high parts and their lowest k bits
abbrev pub joined_values : ℕ → List ℕ → List ℕ → List ℕ
joined_values k [] lows = []
joined_values k (high ∷ highs) [] = []
joined_values k (high ∷ highs) (low ∷ lows) = (high * 2 ^ k + low) ∷ joined_values k highs lows

-- values from their high parts and the low bits that begin the bits
abbrev pub lows_at : ℕ → ℕ → List ℕ → List Bool → Taken (List ℕ)
lows_at k n highs bits = map_taken (joined_values k highs) (values_at (binary_at k) n bits)

-- n values, split at bit k
abbrev pub split_at : ℕ → ℕ → List Bool → Taken (List ℕ)
split_at k n bits = then_at (values_at fs_at n bits) (lows_at k n)

-- what follows identifier and reference sample, by its kind (§7)
abbrev pub body_at : Settings → Bool → Kind → List Bool → Taken Body
body_at s is_reference NoCompression bits =
    map_taken uncompressed_values (values_at (binary_at s.bits) (written_count s is_reference) bits)
body_at s is_reference SecondExtension bits = map_taken value_pairs (members_at (s.block_size / 2) bits)
body_at s is_reference (Split k) bits = map_taken (split_values k) (split_at k (written_count s is_reference) bits)
body_at s is_reference ZeroBlocks bits = map_taken zero_blocks (fs_at bits)

-- ---- a coded data set

-- a reference and a body as a coded data set
abbrev pub set_of : Option ℕ → Body → CodedDataSet
set_of reference body = record { reference = reference; body = body }

-- the coded data set, after its identifier and reference sample
abbrev pub set_after_reference : Settings → Bool → Kind → Option ℕ → List Bool → Taken CodedDataSet
set_after_reference s is_reference kind reference bits = map_taken (set_of reference) (body_at s is_reference kind bits)

-- the coded data set, after its identifier
abbrev pub set_after_kind : Settings → Bool → Kind → List Bool → Taken CodedDataSet
set_after_kind s is_reference kind bits =
    then_at (reference_at s is_reference bits) (set_after_reference s is_reference kind)

-- the coded data set of a reference block or of another
abbrev pub cds_at : Settings → Bool → List Bool → Taken CodedDataSet
cds_at s is_reference bits = then_at (kind_at (id_len s) bits) (set_after_kind s is_reference)
