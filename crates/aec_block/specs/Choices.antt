-- The choice of a block's coding: which spelling each names, and the one that is made.
use Rattle.std.specs.Prelude.{◌≡◌, ℕ, ◌^◌, ◌<◌, ◌≤◌, nat_lt, if◌then◌else◌, Option, is_some, List, length}
use Rattle.std.specs.List.{AllByRecursion}
use Rattle.aec_params.specs.declared.settings.Settings.{Settings}
use Rattle.aec_params.specs.Params.{IsAllowed, id_len}
use Rattle.aec_params.specs.Blocks.{Block}
use Rattle.aec_params.specs.CodedDataSets.{CodedDataSet, cds_bits, HasReference}
use Rattle.aec_params.specs.Spellings.{written_values, uncompressed, paired, split, shortest_spelling}
use Rattle.aec_block.specs.BlockShape.{most_values, IsSound}
use Rattle.aec_block.specs.declared.choice.Coding.{Coding}
use Rattle.aec_block.specs.declared.choice.Coding.TheVariants.{NoCompression, SecondExtension, Split}
use Rattle.aec_block.specs.declared.choice.Choice.{Choice}

-- a reference sample's pattern fits n bits, if there is one
abbrev pub FitsReference : Settings → Option ℕ → Type 0
FitsReference s reference = HasReference s (is_some reference) reference

-- J values and, if there is one, a reference, all of n bits
pub record IsFull (s : Settings) (b : Block) : Type 0 where
  pub len : length b.values ≡ s.block_size
  pub values : AllByRecursion (λ v. v < 2 ^ s.bits) b.values
  pub reference : FitsReference s b.reference

-- a block as `IsFull` says, of n values, with 0 in the reference place
pub record IsWhole (s : Settings) (n : ℕ) (b : Block) : Type 0 where
  pub full : IsFull s b
  pub sound : IsSound b
  pub len_is : length b.values ≡ n

-- a block as `IsFull` says of allowed settings, with what is computed once for it: the length of
-- identifiers, and the values that are written one by one
pub record IsPrepared (s : Settings) (identifier : ℕ) (b : Block) (values : List ℕ) : Type 0 where
  pub allowed : IsAllowed s
  pub id_len_is : identifier ≡ id_len s
  pub full : IsFull s b
  pub written : values ≡ written_values b
  pub few : length values ≤ most_values

-- the block by a coding
abbrev pub spelling_by : Block → Coding → CodedDataSet
spelling_by b NoCompression = uncompressed b
spelling_by b SecondExtension = paired b
spelling_by b (Split k) = split b k

-- a choice that names a spelling of the block, and its whole length (by the coded data set and its
-- bits, where the code has sums)
pub record Names (s : Settings) (b : Block) (c : CodedDataSet) (choice : Choice) : Type 0 where
  pub coding : spelling_by b choice.coding ≡ c
  pub bits : choice.bits ≡ length (cds_bits s c)

-- the choice of the shortest spelling, and of equal ones the first
abbrev pub IsChoice : Settings → Block → Choice → Type 0
IsChoice s b choice = Names s b (shortest_spelling s b) choice

-- the coding with `bits` bits if it is shorter than the best so far, else the best so far
abbrev pub shorter_choice : Choice → Coding → ℕ → Choice
shorter_choice best coding bits = if nat_lt bits best.bits then record { coding = coding; bits = bits } else best
