-- The laws of intervals, streams and readings.
use Rattle.std.specs.Prelude.{◌≡◌, ℕ, ◌<◌, ◌≤◌, Bool, false, Option, Some, ◌⊎◌, ⊤, ℤ, List, [], ◌∷◌, ◌++◌, length}
use Rattle.std.specs.List.{AllByRecursion, flat_map}
use Rattle.aec_params.specs.declared.settings.Settings.{Settings}
use Rattle.aec_params.specs.declared.fault.Fault.{Fault}
use Rattle.aec_params.specs.Params.{IsAllowed, IsHeld, interval_len}
use Rattle.aec_params.specs.Blocks.{intervals_of, blocks_of}
use Rattle.aec_params.specs.Intervals.{unpadded_bits, interval_bits}
use Rattle.aec_params.specs.Streams.{stream_of}
use Rattle.aec_params.specs.Reading.{ReadsBlocks, IsReading}
use Rattle.aec_params.specs.Faults.{IsFault}

-- held samples of one interval: at least one, and no more than an interval has
pub record AreOfInterval (s : Settings) (samples : List ℤ) : Type 0 where
  pub held : AllByRecursion (IsHeld s) samples
  pub some : 0 < length samples
  pub fits : length samples ≤ interval_len s

-- the code of an interval consists of lawful coded data sets for its blocks
abbrev pub IntervalsAreRead : Type 0
IntervalsAreRead = (s : Settings) (samples : List ℤ) → IsAllowed s → AreOfInterval s samples
    → ReadsBlocks s (unpadded_bits s samples) (blocks_of s samples)

-- two intervals of equal length whose codes begin the same bits are equal, and the bits after them
-- too
abbrev pub IntervalsAreTold : Type 0
IntervalsAreTold = (s : Settings) (a b : List ℤ) (x y : List Bool) → IsAllowed s → AreOfInterval s a
    → AreOfInterval s b → length a ≡ length b
    → interval_bits s a ++ x ≡ interval_bits s b ++ y → (a ≡ b) × (x ≡ y)

-- the code of samples, read with their count, decodes to these samples, whatever bits follow
abbrev pub StreamsAreReadBack : Type 0
StreamsAreReadBack = (s : Settings) (limit : ℕ) (samples : List ℤ) (rest : List Bool) → IsAllowed s
    → AllByRecursion (IsHeld s) samples
    → IsReading s (Some (length samples)) limit (stream_of s samples ++ rest) samples

-- bits have either one reading or one fault: never both, never two of one kind
pub record BitsAreReadInOneWay (s : Settings) (count : Option ℕ) (limit : ℕ) (bits : List Bool) : Type 0 where
  -- a reading, or a fault
  pub either : ((samples : List ℤ) × IsReading s count limit bits samples)
      ⊎ ((fault : Fault) × IsFault s count limit bits 0 0 fault)
  -- never both
  pub not_both : (samples : List ℤ) (fault : Fault) → IsReading s count limit bits samples
      → IsFault s count limit bits 0 0 fault → ⊥
  -- at most one reading, and at most one fault
  pub one_reading : (xs ys : List ℤ) → IsReading s count limit bits xs → IsReading s count limit bits ys → xs ≡ ys
  pub one_fault : (e f : Fault) → IsFault s count limit bits 0 0 e → IsFault s count limit bits 0 0 f → e ≡ f

-- `BitsAreReadInOneWay` at all allowed settings, for all bits, counts and limits
abbrev pub AllBitsAreReadInOneWay : Type 0
AllBitsAreReadInOneWay = (s : Settings) (count : Option ℕ) (limit : ℕ) (bits : List Bool) → IsAllowed s
    → BitsAreReadInOneWay s count limit bits

-- the samples of a reading are held, and with a count their number is the count
pub record ReadingsAreSamples (s : Settings) (limit : ℕ) (bits : List Bool) : Type 0 where
  pub held : (count : Option ℕ) (samples : List ℤ) → IsReading s count limit bits samples
      → AllByRecursion (IsHeld s) samples
  pub counted : (count : ℕ) (samples : List ℤ) → IsReading s (Some count) limit bits samples → length samples ≡ count

-- `ReadingsAreSamples` at all allowed settings, for all limits and bits
abbrev pub AllReadingsAreSamples : Type 0
AllReadingsAreSamples = (s : Settings) (limit : ℕ) (bits : List Bool) → IsAllowed s → ReadingsAreSamples s limit bits

-- ---- the shortest code

-- for each interval bits that are coded data sets for its blocks
abbrev pub ReadsEach : Settings → List (List Bool) → List (List ℤ) → Type 0
ReadsEach s [] [] = ⊤
ReadsEach s (code ∷ codes) (v ∷ intervals) = ReadsBlocks s code (blocks_of s v) × ReadsEach s codes intervals
ReadsEach s codes intervals = ⊥

-- if nothing is padded, such codes for the intervals of samples, one after the other, decode to the
-- samples if they are read with the samples' count, whatever bits follow
abbrev pub EachCodeIsRead : Type 0
EachCodeIsRead = (s : Settings) (limit : ℕ) (samples : List ℤ) (codes : List (List Bool)) (rest : List Bool)
    → IsAllowed s → s.pad ≡ false
    → AllByRecursion (IsHeld s) samples → ReadsEach s codes (intervals_of s samples)
    → IsReading s (Some (length samples)) limit (flat_map (λ code. code) codes ++ rest) samples

-- no coded data sets for the blocks of an interval have fewer bits than its code before padding; if
-- nothing is padded, none for the blocks of all intervals have fewer bits than the code of all
-- samples
pub record CodesAreShortest (s : Settings) (samples : List ℤ) : Type 0 where
  pub interval : AreOfInterval s samples → (bits : List Bool) → ReadsBlocks s bits (blocks_of s samples)
      → length (unpadded_bits s samples) ≤ length bits
  pub stream : AllByRecursion (IsHeld s) samples → s.pad ≡ false → (codes : List (List Bool))
      → ReadsEach s codes (intervals_of s samples)
      → length (stream_of s samples) ≤ length (flat_map (λ code. code) codes)

-- `CodesAreShortest` at all allowed settings, for all samples
abbrev pub AllCodesAreShortest : Type 0
AllCodesAreShortest = (s : Settings) (samples : List ℤ) → IsAllowed s → CodesAreShortest s samples
