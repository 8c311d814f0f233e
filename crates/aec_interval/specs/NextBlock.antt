-- For proofs alone: no public contract cites this file.
-- What the private functions of `reading::samples` and `reading::zero_runs` compute: one block more
-- after whole blocks of samples. The contract of `decode_all` cites `IsReading` and `IsFault`
-- instead.
use Rattle.std.specs.Prelude.{ℕ, zero, suc, ◌%◌, ◌==◌, ◌&&◌, Bool, true, false, if◌then◌else◌, Option, Some, None, ℤ, pos, List, [], ◌∷◌, ◌++◌, length, replicate, unwrap_or}
use Rattle.std.specs.List.{last_or}
use Rattle.aec_params.specs.declared.settings.Settings.{Settings}
use Rattle.aec_params.specs.Params.{interval_len, pattern_value}
use Rattle.aec_params.specs.BlockShapes.{IsBlockOf}
use Rattle.aec_params.specs.Places.{zero_block}
use Rattle.aec_params.specs.Reading.{FillBlocks}
use Rattle.aec_params.specs.Mapping.{mapped_after, mapped_values}
use Rattle.aec_params.specs.Blocks.{Block, reference_of}

-- the last sample, from which the next is predicted
abbrev pub last_sample : List ℤ → ℤ
last_sample samples = unwrap_or (last_or None samples) (pos 0)

-- the block of J samples: at the start of an interval, or predicted from p
abbrev pub next_block_at : Settings → Bool → ℤ → List ℤ → Block
next_block_at s true p more = record { reference = reference_of s more; values = mapped_values s more }
next_block_at s false p more = record { reference = None; values = mapped_after s p more }

-- the block of J samples that come after others
abbrev pub next_block_of : Settings → List ℤ → List ℤ → Block
next_block_of s samples more = next_block_at s (length samples % interval_len s == 0) (last_sample samples) more

-- a block that can come after these samples
abbrev pub IsNextBlock : Settings → List ℤ → Block → Type 0
IsNextBlock s samples b = IsBlockOf s (s.preprocess && (length samples % interval_len s == 0)) b

-- new samples fill the blocks that the old ones fill, and some more
abbrev pub FillsNext : Settings → List ℤ → List ℤ → List Block → Type 0
FillsNext s old new more = (blocks : List Block) → FillBlocks s old blocks → FillBlocks s new (blocks ++ more)

-- z zero blocks, the first with this reference
abbrev pub run_blocks : Settings → Option ℕ → ℕ → List Block
run_blocks s reference zero = []
run_blocks s reference (suc z) = zero_block s reference ∷ replicate z (zero_block s None)

-- the sample that a zero block with this reference repeats after these: that of its reference, or
-- else the prediction, or 0 if nothing is predicted
abbrev pub sample_of_zeros : Settings → Option ℕ → List ℤ → ℤ
sample_of_zeros s (Some r) samples = pattern_value s r
sample_of_zeros s None samples = if s.preprocess then last_sample samples else pos 0
