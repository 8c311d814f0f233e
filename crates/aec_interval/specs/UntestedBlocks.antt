-- For proofs alone: no public contract cites this file.
-- Blocks read one coded data set after the other, of which none needs a test of its place: what the
-- private functions of `reading::untested_blocks` do for every reading that comes to the first of
-- them. The contract of `decode_all` cites `IsReading` and `IsFault` instead.
use Rattle.std.specs.Prelude.{◌≡◌, ◌<◌, ◌≤◌, ℕ, ◌+◌, ◌-◌, ◌*◌, ◌/◌, ◌%◌, ℤ, List, length, take}
use Rattle.std.specs.List.{AllByRecursion}
use Rattle.aec_params.specs.declared.settings.Settings.{Settings}
use Rattle.aec_params.specs.Params.{IsHeld}
use Rattle.aec_bits.specs.BitReader.{Cursor}
use Rattle.aec_interval.specs.declared.reading.Wanted.{Wanted}
use Rattle.aec_interval.specs.Reached.{IsReached}
use Rattle.aec_interval.specs.Steps.{IsUntestedEnd}

-- a reading has come to block i at a cursor, with these samples. It began where an interval begins
-- and is after its first block, and before block `end` none needs a test of its place
pub record IsUntestedAt (s : Settings) (wanted : Wanted) (end i : ℕ) (cursor : Cursor) (samples : List ℤ) : Type 0 where
  pub reached : IsReached s wanted.count wanted.limit cursor.list wanted.first wanted.start i cursor.pos samples
  pub aligned : wanted.first % s.interval ≡ 0
  pub behind : wanted.first < i
  pub untested : IsUntestedEnd s wanted.count wanted.limit wanted.first end

-- n blocks further, from place `place` of an interval on: the list is the same, the samples are
-- held, and if none of the blocks needs a test, each reading that has come to the first with the
-- old samples has come past the last with the new ones
pub record ReadsBlocks (s : Settings) (place n : ℕ) (old : Cursor) (samples : List ℤ) (new : Cursor)
    (more : List ℤ) : Type 0 where
  pub list : new.list ≡ old.list
  pub held : AllByRecursion (IsHeld s) more
  pub leads : (wanted : Wanted) (end i : ℕ) → i ≡ wanted.first + place → n ≤ end - i
      → IsUntestedAt s wanted end i old samples → IsUntestedAt s wanted end (i + n) new more

-- `count` blocks were read from place `place` of an interval on, at most `most`: their samples come
-- after the first `from` samples; the list keeps its length
pub record FillsBlocks (s : Settings) (place most from : ℕ) (old : Cursor) (before : List ℤ) (count : ℕ) (new : Cursor)
    (after : List ℤ) : Type 0 where
  pub reads : ReadsBlocks s place count old (take from before) new (take (from + count * s.block_size) after)
  pub within : count ≤ most
  pub len : length after ≡ length before

-- the greatest number of blocks for which room is made at once: `BLOCKS_AT_FIRST`, and those of
-- `MORE_SAMPLES` samples
abbrev pub most_at_once : Settings → ℕ
most_at_once s = 2 + 120 / s.block_size
