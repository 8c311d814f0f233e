-- The bit where the code of an interval begins, and decoding from there on. (FORMAT: The whole
-- stream; an interval's code depends only on its own samples)
use Rattle.std.specs.Prelude.{◌≡◌, ℕ, ◌+◌, ◌-◌, ◌*◌, ◌%◌, ◌<◌, ◌≤◌, Bool, true, Option, Some, ℤ, List, ◌++◌, length, take, drop, get_or}
use Rattle.std.specs.List.{AllByRecursion}
use Rattle.std.specs.Int.{div_ceil}
use Rattle.aec_params.specs.declared.settings.Settings.{Settings}
use Rattle.aec_params.specs.declared.fault.Fault.{Fault}
use Rattle.aec_params.specs.declared.fault.Fault.TheVariants.{Truncated, ValueTooLarge, RunTooLong}
use Rattle.aec_params.specs.Params.{IsAllowed, IsHeld, interval_len}
use Rattle.aec_params.specs.Streams.{stream_of}
use Rattle.aec_params.specs.CodedDataSets.{CodedDataSet}
use Rattle.aec_params.specs.Reading.{is_wanted, LeadsTo, IsReading}
use Rattle.aec_interval.specs.Reached.{RefusesDecoding}

-- bits decode to samples, and interval i of these (from 0) decodes from bit `start` on: with
-- a count, the bits from `start` on decode to that many samples, from the interval's first one on.
-- With padding, `start` is the first bit of a byte
pub record IsReadAlone (s : Settings) (bits : List Bool) (samples : List ℤ) (i start : ℕ) : Type 0 where
  pub within : start ≤ length bits
  pub whole_bytes : s.pad ≡ true → start % 8 ≡ 0
  pub read : (limit count : ℕ) → count ≤ length samples - i * interval_len s
      → IsReading s (Some count) limit (drop start bits) (take count (drop (i * interval_len s) samples))

-- the bit of a stream where the code of interval i begins: the length of the code of all samples
-- before the interval
abbrev pub interval_begin : Settings → ℕ → List ℤ → ℕ
interval_begin s i samples = length (stream_of s (take (i * interval_len s) samples))

-- each interval of held samples decodes from the bit on where its code begins, whatever bits follow
-- the stream
abbrev pub IntervalsAreReadAlone : Type 0
IntervalsAreReadAlone = (s : Settings) (samples : List ℤ) (rest : List Bool) (i : ℕ) → IsAllowed s
    → AllByRecursion (IsHeld s) samples → i * interval_len s ≤ length samples
    → IsReadAlone s (stream_of s samples ++ rest) samples i (interval_begin s i samples)

-- coded data sets lead from the first bit to block i at bit b: an interval begins there, and more
-- is wanted
pub record IsPassed (s : Settings) (count : Option ℕ) (limit : ℕ) (bits : List Bool) (i b : ℕ) : Type 0 where
  pub sets : List CodedDataSet
  pub leads : LeadsTo s count limit bits 0 0 sets i b
  pub wanted : is_wanted s count bits i b ≡ true
  pub begins : i % s.interval ≡ 0

-- the bits decode to samples, and there is one offset for each interval of these: the bit that the
-- reading reaches at the interval's first block, from which on the interval decodes alone
pub record AreOffsets (s : Settings) (count : Option ℕ) (limit : ℕ) (bits : List Bool) (offsets : List ℕ) : Type 0 where
  pub samples : List ℤ
  pub reading : IsReading s count limit bits samples
  pub number : length offsets ≡ div_ceil (length samples) (interval_len s)
  pub passed : (i : ℕ) → i < length offsets → IsPassed s count limit bits (i * s.interval) (get_or offsets i 0)
  pub alone : (i : ℕ) → i < length offsets → IsReadAlone s bits samples i (get_or offsets i 0)

-- the offsets of the stream of held samples, read with their count, are the bits where the codes of
-- the intervals begin, whatever bits follow the stream
abbrev pub OffsetsAreOfTheCode : Type 0
OffsetsAreOfTheCode = (s : Settings) (limit : ℕ) (samples : List ℤ) (rest : List Bool) (offsets : List ℕ) → IsAllowed s
    → AllByRecursion (IsHeld s) samples
    → AreOffsets s (Some (length samples)) limit (stream_of s samples ++ rest) offsets → (i : ℕ) → i < length offsets
    → get_or offsets i 0 ≡ interval_begin s i samples

-- a fault whose bit is counted from bit `start` on, with its bit counted from the first bit
abbrev pub fault_from : ℕ → Fault → Fault
fault_from start (Truncated bit) = Truncated (start + bit)
fault_from start (ValueTooLarge bit) = ValueTooLarge (start + bit)
fault_from start (RunTooLong bit) = RunTooLong (start + bit)
fault_from start fault = fault

-- why bits are not decoded from bit `start` on: why the bits from `start` on alone are not decoded.
-- The fault's bit is counted from the first of all bits
pub record RefusesDecodingAt (s : Settings) (count : Option ℕ) (limit : ℕ) (bits : List Bool) (start : ℕ)
    (fault : Fault) : Type 0 where
  pub alone : Fault
  pub refuses : RefusesDecoding s count limit (drop start bits) alone
  pub counted : fault ≡ fault_from start alone
