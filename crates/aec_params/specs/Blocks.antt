-- Intervals and blocks: how samples are cut up before they are coded.
use Rattle.std.specs.Prelude.{ℕ, ◌==◌, Bool, if◌then◌else◌, Option, Some, None, ℤ, pos, List, [], ◌∷◌, ◌++◌, length, map, replicate, unwrap_or}
use Rattle.std.specs.List.{list_all, last_or, flat_map}
use Rattle.aec_params.specs.declared.settings.Settings.{Settings}
use Rattle.aec_params.specs.Params.{interval_len, sample_pattern}
use Rattle.aec_params.specs.Cutting.{pieces_of, up_to_multiple}
use Rattle.aec_params.specs.Mapping.{mapped_values}

-- a block: the reference sample's pattern where it has one, and its values, with 0 in the reference
-- place (§4; a list without bound, where the code has 64 places)
pub record Block : Type 0 where
  pub reference : Option ℕ
  pub values : List ℕ

-- the samples cut into reference sample intervals (§3)
abbrev pub intervals_of : Settings → List ℤ → List (List ℤ)
intervals_of s xs = pieces_of (interval_len s) xs

-- an interval's samples filled up to whole blocks with its last sample (§3; filled, then mapped,
-- where the code maps the filler into the last block)
abbrev pub filled_samples : Settings → List ℤ → List ℤ
filled_samples s v = v ++ replicate (up_to_multiple s.block_size (length v)) (unwrap_or (last_or None v) (pos 0))

-- with preprocessing, the pattern of an interval's first sample (§4)
abbrev pub reference_of : Settings → List ℤ → Option ℕ
reference_of s [] = None
reference_of s (x ∷ xs) = if s.preprocess then Some (sample_pattern s x) else None

-- groups of values as blocks, of which the first has the reference (§4)
abbrev pub with_reference : Option ℕ → List (List ℕ) → List Block
with_reference reference [] = []
with_reference reference (group ∷ groups) =
    record { reference = reference; values = group } ∷ map
    (λ values. record { reference = None; values = values }) groups

-- the blocks of one interval (§3, §4; the whole interval filled, mapped, then cut, where the code
-- makes one block at a time)
abbrev pub blocks_of : Settings → List ℤ → List Block
blocks_of s v = with_reference (reference_of s v) (pieces_of s.block_size (mapped_values s (filled_samples s v)))

-- the blocks of all samples (§12; readings are stated by this list, which no code makes)
abbrev pub all_blocks_of : Settings → List ℤ → List Block
all_blocks_of s xs = flat_map (blocks_of s) (intervals_of s xs)

-- whether all values of a block are 0 (§8; the one in the reference place included)
abbrev pub is_zero_block : Block → Bool
is_zero_block b = list_all (λ v. v == 0) b.values
