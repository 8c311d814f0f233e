-- What is written for a block's values and for a run, in parts.
use Rattle.std.specs.Prelude.{◌≡◌, ◌+◌, ◌*◌, ◌<◌, ◌≤◌, ℕ, ◌/◌, ◌%◌, ◌^◌, Bool, Option, List, ◌++◌, length, Result}
use Rattle.std.specs.List.{flat_map}
use Rattle.aec_params.specs.declared.fault.Fault.{Fault}
use Rattle.aec_params.specs.declared.settings.Settings.{Settings}
use Rattle.aec_params.specs.Codewords.{fs, binary}
use Rattle.aec_params.specs.Blocks.{Block}
use Rattle.aec_params.specs.CodedDataSets.{zero_blocks, cds_bits}
use Rattle.aec_params.specs.Spellings.{shortest_spelling}
use Rattle.aec_params.specs.Runs.{run_code}
use Rattle.aec_bits.specs.BitBuf.{Bits, AppendsBits}
use Rattle.aec_block.specs.BlockShape.{most_values}

-- the fundamental sequences of the values without their k low bits
abbrev pub high_parts : ℕ → List ℕ → List Bool
high_parts k values = flat_map (λ v. fs (v / 2 ^ k)) values

-- the k low bits of the values
abbrev pub low_parts : ℕ → List ℕ → List Bool
low_parts k values = flat_map (λ v. binary k (v % 2 ^ k)) values

-- a number of fewer than 64 bits
pub record FitsPart (width value : ℕ) : Type 0 where
  pub narrow : width < 64
  pub fits : value < 2 ^ width

-- the values can be split at bit k, below 32, and take `len` bits without their k low bits
-- (computed once)
pub record IsHighLen (k : ℕ) (values : List ℕ) (len : ℕ) : Type 0 where
  pub k_below : k < 32
  pub len_is : len ≡ length (high_parts k values)

-- a k below 32, and values whose codewords without their k low bits are fewer than 64 bits
pub record FitsHighWord (k : ℕ) (values : List ℕ) : Type 0 where
  pub k_below : k < 32
  pub few : length (high_parts k values) < 64

-- a number of n bits, which are the given ones (a step of the code; the clauses of `write_block`
-- state the bits of the whole)
pub record Spells (n : ℕ) (spelled : List Bool) (number : ℕ) : Type 0 where
  pub below : number < 2 ^ n
  pub bits : binary n number ≡ spelled

-- a count of values, from 1 to `most_values`, whose low bits of this width are fewer than 64 in all
pub record FitsLowWord (count width : ℕ) : Type 0 where
  pub some : 0 < count
  pub most : count ≤ most_values
  pub narrow : width ≤ 32
  pub few : count * width < 64

-- what splitting with k writes of values: high parts, then low parts
abbrev pub split_parts : ℕ → List ℕ → List Bool
split_parts k values = high_parts k values ++ low_parts k values

-- the bits of the shortest spelling of a block (a whole list, where the code appends part by part
-- into reserved room)
abbrev pub shortest_bits : Settings → Block → List Bool
shortest_bits s b = cds_bits s (shortest_spelling s b)

-- the bits of a run of z zero blocks, which ends its segment or not (a whole list, where the code
-- appends part by part into reserved room)
abbrev pub run_bits : Settings → Option ℕ → ℕ → Bool → List Bool
run_bits s reference z is_last = cds_bits s (record { reference = reference; body = zero_blocks (run_code z is_last) })

-- bits are appended whole or not at all
abbrev pub Appends : List Bool → Bits → Result (Unit {0}) Fault → Bits → Type 0
Appends bits old result new = AppendsBits (length bits) bits old new result

-- bits are appended, and the room shrinks by at most their number
pub record Adds (added : List Bool) (old new : Bits) : Type 0 where
  pub list : new.list ≡ old.list ++ added
  pub room : old.room ≤ new.room + length added

-- Bits are gathered, which include those that were held before: the new list followed by the bits
-- that are held now is the old list followed by the gathered bits. The room shrinks by at most the
-- number of bits that were appended.
pub record GathersBits (gathered : List Bool) (old : Bits) (held : List Bool) (new : Bits) : Type 0 where
  pub list : new.list ++ held ≡ old.list ++ gathered
  pub room : old.room + length held ≤ new.room + length gathered
