-- For proofs alone: no public contract cites this file.
-- What the private functions of `reading` compute: what a coded data set that was read decodes to
-- after other blocks. The contract of `decode_all` cites `IsReading` and `IsFault` instead.
use Rattle.std.specs.Prelude.{ℕ, ◌+◌, ◌-◌, ◌%◌, ◌≤◌, min, nat_lt, if◌then◌else◌, Option, Some, None, Result, Ok, Err, ℤ, List, [], ◌∷◌}
use Rattle.std.specs.Int.{div_ceil}
use Rattle.aec_params.specs.declared.settings.Settings.{Settings}
use Rattle.aec_params.specs.declared.fault.Fault.{Fault}
use Rattle.aec_params.specs.declared.fault.Fault.TheVariants.{RunTooLong, TooManySamples}
use Rattle.aec_params.specs.Blocks.{Block}
use Rattle.aec_params.specs.CodedDataSets.{HasReference}
use Rattle.aec_params.specs.Places.{segment_left, is_reference_block}
use Rattle.aec_params.specs.Reading.{keeps_limit}
use Rattle.aec_block.specs.declared.cds.RunLen.{RunLen}
use Rattle.aec_block.specs.declared.cds.RunLen.TheVariants.{Blocks, Rest}
use Rattle.aec_block.specs.declared.cds.Cds.{Cds}
use Rattle.aec_block.specs.declared.cds.Cds.TheVariants.{Single, Zeros}
use Rattle.aec_interval.specs.NextBlock.{IsNextBlock, run_blocks}

-- how many blocks the length of a run means at block p of an interval
abbrev pub run_count : Settings → ℕ → RunLen → ℕ
run_count s p (Blocks z) = z
run_count s p Rest = segment_left s p

-- the block after a coded data set that begins at block i and at this bit and decodes to z blocks,
-- or its refusal: `RunTooLong` if its segment has fewer blocks left, else `TooManySamples` if the
-- samples with it pass the limit
abbrev pub block_behind : Settings → Option ℕ → ℕ → ℕ → ℕ → ℕ → Result ℕ Fault
block_behind s count limit i z bit =
    if nat_lt (segment_left s (i % s.interval)) z then Err (RunTooLong bit)
    else (if keeps_limit s count limit (i + z) then Ok (i + z) else Err (TooManySamples limit))

-- how many of z blocks are kept from block i on, as a number: it agrees with `kept_blocks` by
-- `length-kept_blocks`
abbrev pub kept_count : Settings → Option ℕ → ℕ → ℕ → ℕ
kept_count s None i z = z
kept_count s (Some count) i z = min z (div_ceil count s.block_size - i)

-- how many blocks an interval has from block i of the stream on
abbrev pub blocks_before_end : Settings → ℕ → ℕ
blocks_before_end s i = s.interval - i % s.interval

-- what a coded data set decodes to can come after samples of i blocks: a block, by `IsNextBlock`;
-- or a run whose first `kept` blocks are in their interval
abbrev pub IsNextCds : Settings → ℕ → List ℤ → ℕ → Cds → Type 0
IsNextCds s i samples kept (Single b) = IsNextBlock s samples b
IsNextCds s i samples kept (Zeros reference len) =
    (1 ≤ kept) × ((i % s.interval + kept ≤ s.interval)
    × HasReference s (is_reference_block s (i % s.interval)) reference)

-- of what a coded data set decodes to, the one block, or the first `kept` blocks of the run
abbrev pub cds_front : Settings → ℕ → Cds → List Block
cds_front s kept (Single b) = b ∷ []
cds_front s kept (Zeros reference len) = run_blocks s reference kept
