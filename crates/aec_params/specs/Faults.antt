-- The fault of bits that have no reading.
use Rattle.std.specs.Prelude.{◌≡◌, ℕ, ◌%◌, Bool, true, false, Option, List}
use Rattle.aec_params.specs.declared.settings.Settings.{Settings}
use Rattle.aec_params.specs.declared.fault.Fault.{Fault}
use Rattle.aec_params.specs.declared.fault.Fault.TheVariants.{Truncated, ValueTooLarge, RunTooLong, TooManySamples}
use Rattle.aec_params.specs.CodedDataSets.{CodedDataSet, HasShape, has_small_values}
use Rattle.aec_params.specs.Places.{stays_in_segment, is_reference_block, IsLawfulAt}
use Rattle.aec_params.specs.Reading.{StandsAt, next_block, is_wanted, keeps_limit, LeadsTo}

-- a coded data set, lawful or not, of a reference block or of another, that begins at position b
-- (§12)
pub record IsSetAt (s : Settings) (is_reference : Bool) (bits : List Bool) (b : ℕ) (c : CodedDataSet) : Type 0 where
  pub shape : HasShape s is_reference c
  pub stands : StandsAt s bits b c

-- why no coded data set is read at position b (§12; no coded data set at all begins there, where
-- the code runs out of bits)
pub data IsNotRead (s : Settings) (is_reference : Bool) (bits : List Bool) (b : ℕ) : Fault → Type 0 where
  -- none begins there
  cut_short : ((c : CodedDataSet) → IsSetAt s is_reference bits b c → ⊥) → IsNotRead s is_reference bits b (Truncated b)
  -- else a value of it is above 2^n - 1
  too_large : (c : CodedDataSet) → IsSetAt s is_reference bits b c → has_small_values s c ≡ false
      → IsNotRead s is_reference bits b (ValueTooLarge b)

-- what is wrong at block i of the stream and position b (§12; none is read there, or the set that
-- is read breaks a rule. The first in the order of §12's table counts)
pub data IsWrongAt (s : Settings) (count : Option ℕ) (limit : ℕ) (bits : List Bool) (i b : ℕ) : Fault → Type 0 where
  -- no coded data set is read there
  not_read : (fault : Fault) → IsNotRead s (is_reference_block s (i % s.interval)) bits b fault
      → IsWrongAt s count limit bits i b fault
  -- else the run is longer than what its segment has left
  too_long : (c : CodedDataSet) → IsSetAt s (is_reference_block s (i % s.interval)) bits b c
      → has_small_values s c ≡ true
      → stays_in_segment s (i % s.interval) c ≡ false → IsWrongAt s count limit bits i b (RunTooLong b)
  -- else the samples with this coded data set pass the limit
  too_many : (c : CodedDataSet) → IsSetAt s (is_reference_block s (i % s.interval)) bits b c
      → IsLawfulAt s (i % s.interval) c
      → keeps_limit s count limit (next_block s i c) ≡ false → IsWrongAt s count limit bits i b (TooManySamples limit)

-- the fault of the bits from block i at position b on: lawful coded data sets lead to a place where
-- more is wanted, and there something is wrong (§12)
pub record IsFault (s : Settings) (count : Option ℕ) (limit : ℕ) (bits : List Bool) (i b : ℕ)
    (fault : Fault) : Type 0 where
  pub sets : List CodedDataSet
  pub block : ℕ
  pub bit : ℕ
  pub leads : LeadsTo s count limit bits i b sets block bit
  pub wanted : is_wanted s count bits block bit ≡ true
  pub wrong : IsWrongAt s count limit bits block bit fault
