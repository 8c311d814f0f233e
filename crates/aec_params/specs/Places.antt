-- Coded data sets at their place in an interval: which blocks they decode to, and when they are
-- lawful there.
use Rattle.std.specs.Prelude.{◌≡◌, ℕ, ◌+◌, ◌-◌, ◌%◌, min, Bool, true, ◌&&◌, ◌==◌, nat_lt, nat_le, if◌then◌else◌, Option, Some, None, List, [], ◌∷◌, replicate, unwrap_or}
use Rattle.aec_params.specs.declared.settings.Settings.{Settings}
use Rattle.aec_params.specs.Blocks.{Block}
use Rattle.aec_params.specs.Runs.{segment_len}
use Rattle.aec_params.specs.Spellings.{after_reference}
use Rattle.aec_params.specs.CodedDataSets.{Body, uncompressed_values, value_pairs, split_values, zero_blocks, CodedDataSet, HasShape, has_small_values}

-- how many blocks the segment of block p of an interval has left; the last segment ends with the
-- interval (§8, §12)
abbrev pub segment_left : Settings → ℕ → ℕ
segment_left s p = min (segment_len - p % segment_len) (s.interval - p)

-- how many blocks the number of a run's code means by itself: `None` for 4, which means all that
-- the segment has left (§8; the code keeps the remainder apart until it knows the place)
abbrev pub told_blocks : ℕ → Option ℕ
told_blocks m = if nat_lt m 4 then Some (m + 1) else (if m == 4 then None else Some m)

-- how many blocks the number of a run's code means at block p of an interval (§8)
abbrev pub run_len : Settings → ℕ → ℕ → ℕ
run_len s p m = unwrap_or (told_blocks m) (segment_left s p)

-- how many blocks a coded data set with this body decodes to at block p (§7)
abbrev pub body_blocks : Settings → ℕ → Body → ℕ
body_blocks s p (uncompressed_values values) = 1
body_blocks s p (value_pairs values) = 1
body_blocks s p (split_values k values) = 1
body_blocks s p (zero_blocks m) = run_len s p m

-- how many blocks a coded data set decodes to at block p (§7)
abbrev pub block_count : Settings → ℕ → CodedDataSet → ℕ
block_count s p c = body_blocks s p c.body

-- whether a coded data set at block p stays within its segment (§12)
abbrev pub stays_in_segment : Settings → ℕ → CodedDataSet → Bool
stays_in_segment s p c = nat_le (block_count s p c) (segment_left s p)

-- whether block p has a reference sample (§4)
abbrev pub is_reference_block : Settings → ℕ → Bool
is_reference_block s p = s.preprocess && (p == 0)

-- a coded data set that the format has at block p of an interval (§12; its shape, its values and
-- the length of its run have no fault)
pub record IsLawfulAt (s : Settings) (p : ℕ) (c : CodedDataSet) : Type 0 where
  pub shape : HasShape s (is_reference_block s p) c
  pub small : has_small_values s c ≡ true
  pub within : stays_in_segment s p c ≡ true

-- values with 0 added in the reference place, if there is one (§4; lists, where the code writes the
-- 0 first and goes on)
abbrev pub placed_values : Option ℕ → List ℕ → List ℕ
placed_values None values = values
placed_values (Some r) values = 0 ∷ values

-- the members of pairs, with 0 instead of the one in the reference place, if there is one (§7; a
-- reader ignores that member)
abbrev pub placed_members : Option ℕ → List ℕ → List ℕ
placed_members reference members = placed_values reference (after_reference reference members)

-- the block of values that are written one by one (§4, §7)
abbrev pub block_of_values : Option ℕ → List ℕ → Block
block_of_values reference values = record { reference = reference; values = placed_values reference values }

-- the block of the members of pairs (§4, §7)
abbrev pub block_of_members : Option ℕ → List ℕ → Block
block_of_members reference members = record { reference = reference; values = placed_members reference members }

-- a block of zeros (§8)
abbrev pub zero_block : Settings → Option ℕ → Block
zero_block s reference = record { reference = reference; values = replicate s.block_size 0 }

-- the blocks that a reference and a body decode to at block p (§12; a list of blocks, also for a
-- run, where the code pushes samples)
abbrev pub blocks_in : Settings → ℕ → Option ℕ → Body → List Block
blocks_in s p reference (uncompressed_values values) = block_of_values reference values ∷ []
blocks_in s p reference (value_pairs members) = block_of_members reference members ∷ []
blocks_in s p reference (split_values k values) = block_of_values reference values ∷ []
blocks_in s p reference (zero_blocks m) = zero_block s reference ∷ replicate (run_len s p m - 1) (zero_block s None)

-- the blocks that a coded data set decodes to at block p (§12)
abbrev pub cds_blocks : Settings → ℕ → CodedDataSet → List Block
cds_blocks s p c = blocks_in s p c.reference c.body
