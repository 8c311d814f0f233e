-- Runs of zero blocks: how the blocks of a segment are grouped, and the number that a run's code
-- spells.
use Rattle.std.specs.Prelude.{ℕ, ◌+◌, ◌-◌, Bool, nat_le, if◌then◌else◌, Option, List, [], ◌∷◌}
use Rattle.aec_params.specs.Blocks.{Block, is_zero_block}
use Rattle.aec_params.specs.Cutting.{pieces_of}

-- a run of zero blocks, with the reference of its first block and its length; or one other block
-- (§8)
pub data Group : Type 0 where
  zero_run : Option ℕ → ℕ → Group
  single_block : Block → Group

-- how many blocks a segment has (§8)
abbrev pub segment_len : ℕ
segment_len = 64

-- blocks in consecutive segments (§8; the blocks are those that are coded, so the last one ends a
-- segment)
abbrev pub segments_of : List Block → List (List Block)
segments_of blocks = pieces_of segment_len blocks

-- groups with a zero block and its reference added before them: if the first group is a run, the
-- block joins it (§8)
abbrev pub with_zero_block : Option ℕ → List Group → List Group
with_zero_block reference (zero_run later z ∷ groups) = zero_run reference (z + 1) ∷ groups
with_zero_block reference groups = zero_run reference 1 ∷ groups

-- a segment in runs of zero blocks, each as long as possible, and single other blocks (§8; a
-- finished list from the right, where the code counts from the left as blocks come)
abbrev pub groups_of : List Block → List Group
groups_of [] = []
groups_of (b ∷ blocks) = if is_zero_block b then with_zero_block b.reference (groups_of blocks)
    else single_block b ∷ groups_of blocks

-- the number that is written for a run of z blocks; the remainder code, 4, only if the run ends the
-- coded blocks of its segment (§8)
abbrev pub run_code : ℕ → Bool → ℕ
run_code z is_last = if nat_le z 4 then z - 1 else (if is_last then 4 else z)
