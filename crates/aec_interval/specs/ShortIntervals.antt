-- For proofs alone: no public contract cites this file.
-- Whole intervals read one after the other: what the private functions of `reading::short` and
-- `reading::short_interval` do for every reading in which none of their blocks needs a test of its
-- place.
use Rattle.std.specs.Prelude.{◌≡◌, ◌<◌, ◌≤◌, ℕ, ◌+◌, ◌*◌, ◌%◌, Bool, true, false, Option, IfSome, ℤ, List, length, take, unwrap_or}
use Rattle.std.specs.List.{AllByRecursion}
use Rattle.aec_params.specs.declared.settings.Settings.{Settings}
use Rattle.aec_params.specs.Params.{IsHeld, interval_len}
use Rattle.aec_params.specs.Limits.{most_samples}
use Rattle.aec_bits.specs.BitReader.{Cursor}
use Rattle.aec_interval.specs.declared.reading.Wanted.{Wanted}
use Rattle.aec_interval.specs.Reached.{IsReached}
use Rattle.aec_interval.specs.Steps.{IsUntestedEnd}
use Rattle.aec_interval.specs.UntestedBlocks.{IsUntestedAt}

-- the samples of all blocks before block `last` are asked for, if a count is given, and else keep
-- the limit; count and limit are at most `most_samples`, and no interval is padded
pub record AreWithin (s : Settings) (count : Option ℕ) (limit last : ℕ) : Type 0 where
  pub unpadded : s.pad ≡ false
  pub low : limit ≤ most_samples
  pub counted : IfSome count (λ n. n ≤ most_samples)
  pub samples : last * s.block_size ≤ unwrap_or count limit

-- a reading that begins at block `first` and position `start`
abbrev pub begun_at : Option ℕ → ℕ → ℕ → ℕ → Wanted
begun_at count limit first start = record { first = first; start = start; count = count; limit = limit }

-- the first n blocks of an interval were read, with the reference sample if there is one: the list
-- is the same, the samples are held, and each reading that begins there is after these blocks with
-- these samples, if its interval needs no test
pub record ReadsFirst (s : Settings) (n : ℕ) (old new : Cursor) (samples : List ℤ) : Type 0 where
  pub list : new.list ≡ old.list
  pub held : AllByRecursion (IsHeld s) samples
  pub leads : (count : Option ℕ) (limit i : ℕ) → i % s.interval ≡ 0 → IsUntestedEnd s count limit i (i + s.interval)
      → IsUntestedAt s (begun_at count limit i old.pos) (i + s.interval) (i + n) new samples

-- n intervals were read: the list is the same, and each reading that begins there, and in which
-- their samples are within, is after them with these samples
pub record ReadsWhole (s : Settings) (n : ℕ) (old new : Cursor) (samples : List ℤ) : Type 0 where
  pub list : new.list ≡ old.list
  pub leads : (count : Option ℕ) (limit i : ℕ) → i % s.interval ≡ 0 → AreWithin s count limit (i + n * s.interval)
      → IsReached s count limit old.list i old.pos (i + n * s.interval) new.pos samples

-- the first n blocks of an interval were read into the front of the samples, if n isn't 0; else the
-- bits are the same, too. The list of samples keeps its length
pub record FillsFirst (s : Settings) (old : Cursor) (samples : List ℤ) (n : ℕ) (new : Cursor)
    (after : List ℤ) : Type 0 where
  pub ok : 0 < n → ReadsFirst s n old new (take (n * s.block_size) after)
  pub within : n ≤ s.interval
  pub list : new.list ≡ old.list
  pub len : length after ≡ length samples

-- the next interval was read into the samples, if `is_read`; else the reader hasn't moved. The list
-- of samples keeps its length
pub record FillsInterval (s : Settings) (old : Cursor) (before : List ℤ) (is_read : Bool) (new : Cursor)
    (after : List ℤ) : Type 0 where
  pub ok : is_read ≡ true → ReadsWhole s 1 old new after
  pub stays : is_read ≡ false → new ≡ old
  pub len : length after ≡ length before

-- n intervals, at most `most`, were read into the front of the samples; if none, the reader hasn't
-- moved. The list of samples keeps its length
pub record FillsIntervals (s : Settings) (most : ℕ) (old : Cursor) (before : List ℤ) (n : ℕ) (new : Cursor)
    (after : List ℤ) : Type 0 where
  pub reads : 0 < n → ReadsWhole s n old new (take (n * interval_len s) after)
  pub stays : n ≡ 0 → new ≡ old
  pub list : new.list ≡ old.list
  pub within : n ≤ most
  pub len : length after ≡ length before
