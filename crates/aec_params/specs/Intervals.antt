-- The code of one reference sample interval.
use Rattle.std.specs.Prelude.{Bool, true, false, if◌then◌else◌, ℤ, List, [], ◌∷◌}
use Rattle.std.specs.List.{flat_map}
use Rattle.aec_params.specs.declared.settings.Settings.{Settings}
use Rattle.aec_params.specs.Codewords.{padded_to_byte}
use Rattle.aec_params.specs.Blocks.{Block, blocks_of}
use Rattle.aec_params.specs.CodedDataSets.{CodedDataSet, zero_blocks, cds_bits}
use Rattle.aec_params.specs.Spellings.{shortest_spelling}
use Rattle.aec_params.specs.Runs.{Group, zero_run, single_block, segments_of, groups_of, run_code}

-- what is written for a group, which is the last of its segment or not (§8, §9)
abbrev pub group_set : Settings → Group → Bool → CodedDataSet
group_set s (zero_run reference z) is_last = record { reference = reference; body = zero_blocks (run_code z is_last) }
group_set s (single_block b) is_last = shortest_spelling s b

-- whether no group is left
abbrev pub is_empty : List Group → Bool
is_empty [] = true
is_empty (g ∷ groups) = false

-- what is written for the groups of a segment (§8, §9; over a finished list, where the code learns
-- that a run is the last when its segment ends)
abbrev pub group_sets : Settings → List Group → List CodedDataSet
group_sets s [] = []
group_sets s (g ∷ groups) = group_set s g (is_empty groups) ∷ group_sets s groups

-- the coded data sets of blocks, segment by segment (§11; a list that no code makes)
abbrev pub block_sets : Settings → List Block → List CodedDataSet
block_sets s blocks = flat_map (λ segment. group_sets s (groups_of segment)) (segments_of blocks)

-- the code of an interval's samples, without padding (§11)
abbrev pub unpadded_bits : Settings → List ℤ → List Bool
unpadded_bits s v = flat_map (cds_bits s) (block_sets s (blocks_of s v))

-- the code of an interval's samples, padded where the settings ask for it (§10; the interval's own
-- bits, where the program counts in a buffer that has earlier bits too)
abbrev pub interval_bits : Settings → List ℤ → List Bool
interval_bits s v = if s.pad then padded_to_byte (unpadded_bits s v) else unpadded_bits s v
