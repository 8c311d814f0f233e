-- For proofs alone: no public contract cites this file.
-- What the steps of a reading need and how far they come, whether they make samples or skip them:
-- for the private functions of `reading`, `reading::untested_blocks` and `reading::skipping`. The
-- contract of `decode_all` cites `IsReading` and `IsFault` instead.
use Rattle.std.specs.Prelude.{◌≡◌, ◌<◌, ◌≤◌, ◌+◌, ◌*◌, ◌%◌, ℕ, Bool, true, Option, IfSome, unwrap_or, List}
use Rattle.std.specs.Int.{div_ceil}
use Rattle.aec_params.specs.declared.settings.Settings.{Settings}
use Rattle.aec_params.specs.Reading.{is_wanted, keeps_limit}
use Rattle.aec_params.specs.Limits.{most_blocks, most_samples}
use Rattle.aec_bits.specs.BitReader.{Cursor}
use Rattle.aec_interval.specs.NextSet.{blocks_before_end}
use Rattle.aec_interval.specs.Skipping.{IsLedTo}

-- in a reading that began at block `first`, where an interval begins, block i is wanted, whose
-- coded data set begins at position b
pub record IsWantedNext (s : Settings) (count : Option ℕ) (limit : ℕ) (bits : List Bool) (first i b : ℕ) : Type 0 where
  pub aligned : first % s.interval ≡ 0
  pub wanted : is_wanted s count bits i b ≡ true
  pub few : i < most_blocks
  pub low : limit ≤ most_samples
  pub counted : IfSome count (λ n. n ≤ most_samples)

-- block `next` comes after block i, at most where the interval of block i ends
pub record ComesNext (s : Settings) (i next : ℕ) : Type 0 where
  pub forward : i < next
  pub within : next ≤ i + blocks_before_end s i
  pub few : next < most_blocks

-- no block before `last`, in the interval that begins at block `first`, needs a test of its place:
-- each is needed, keeps the limit and isn't followed by padding. `last` need not be the greatest
-- such bound. It is below `most_blocks`, as all block numbers are
pub record IsUntestedEnd (s : Settings) (count : Option ℕ) (limit first last : ℕ) : Type 0 where
  pub within : last ≤ first + s.interval
  pub unpadded : s.pad ≡ true → last < first + s.interval
  pub needed : IfSome count (λ n. last ≤ div_ceil n s.block_size)
  pub keeps : keeps_limit s count limit last ≡ true
  pub few : last < most_blocks

-- the interval that begins at block `first` was read or skipped up to block `next` at position b:
-- to its end, if more is wanted there
pub record IsGoneOver (s : Settings) (count : Option ℕ) (bits : List Bool) (first next b : ℕ) : Type 0 where
  pub forward : first < next
  pub within : next ≤ first + s.interval
  pub few : next < most_blocks
  pub to_end : is_wanted s count bits next b ≡ true → next ≡ first + s.interval
  pub ends : is_wanted s count bits next b ≡ true → next % s.interval ≡ 0

-- n blocks, at most `most`, were skipped from place `place` of an interval on: the list is the
-- same, and a reading that has come to the first of them comes past the last one, if their samples
-- are within its count, or else its limit; this holds for a count and a limit of at most
-- `most_samples`
pub record SkipsBlocks (s : Settings) (place most : ℕ) (old : Cursor) (n : ℕ) (new : Cursor) : Type 0 where
  pub list : new.list ≡ old.list
  pub within : n ≤ most
  pub stays : n ≡ 0 → new ≡ old
  pub leads : (count : Option ℕ) (limit first start i : ℕ) → i % s.interval ≡ place → limit ≤ most_samples
      → IfSome count (λ m. m ≤ most_samples) → (0 < n → (i + n) * s.block_size ≤ unwrap_or count limit)
      → IsLedTo s count limit old.list first start i old.pos
      → IsLedTo s count limit old.list first start (i + n) new.pos
