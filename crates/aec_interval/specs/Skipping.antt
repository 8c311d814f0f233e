-- Skipping coded data sets without making their samples: what the private functions of
-- `reading::skipping` compute, what a `StreamReader` that skips an interval returns, and that
-- skipped coded data sets stand for samples.
use Rattle.std.specs.Prelude.{◌≡◌, ◌<◌, ◌+◌, ◌-◌, ◌*◌, ◌%◌, ℕ, min, Bool, Option, Some, None, ℤ, List, length}
use Rattle.aec_params.specs.declared.settings.Settings.{Settings}
use Rattle.aec_params.specs.declared.fault.Fault.{Fault}
use Rattle.aec_params.specs.Params.{IsAllowed}
use Rattle.aec_params.specs.CodedDataSets.{CodedDataSet}
use Rattle.aec_params.specs.Reading.{LeadsTo}
use Rattle.aec_params.specs.Faults.{IsFault}
use Rattle.aec_interval.specs.Pieces.{Place, place_at, ReadsPiece, ReadsInterval, ReadsIntervals}

-- from block `first` at position `start` on, some coded data sets lead to block i at position b
pub record IsLedTo (s : Settings) (count : Option ℕ) (limit : ℕ) (bits : List Bool) (first start i b : ℕ) : Type 0 where
  pub sets : List CodedDataSet
  pub leads : LeadsTo s count limit bits first start sets i b

-- the fault of a coded data set that would begin before block `end` (`IsFault`, bounded)
pub record IsFaultBefore (s : Settings) (count : Option ℕ) (limit : ℕ) (bits : List Bool) (first start end : ℕ)
    (fault : Fault) : Type 0 where
  pub wrong : IsFault s count limit bits first start fault
  pub before : wrong.block < end

-- how many samples are asked for of the blocks from block i up to block j
abbrev pub asked_len : Settings → Option ℕ → ℕ → ℕ → ℕ
asked_len s None i j = (j - i) * s.block_size
asked_len s (Some count) i j = min ((j - i) * s.block_size) (count - i * s.block_size)

-- the next interval decodes to `len` samples (`ReadsInterval` of some list of samples)
pub record HasInterval (p : Place) (len : ℕ) (q : Place) : Type 0 where
  pub samples : List ℤ
  pub read : ReadsInterval p samples q
  pub counted : length samples ≡ len

-- the next `len` samples are those up to a place further on (`ReadsIntervals` of some list of
-- samples)
pub record HasIntervals (p : Place) (len : ℕ) (q : Place) : Type 0 where
  pub samples : List ℤ
  pub read : ReadsIntervals p samples q
  pub counted : length samples ≡ len

-- the fault in the interval that begins at a place
abbrev pub IsFaultAt : Place → Fault → Type 0
IsFaultAt p fault = IsFaultBefore p.settings p.count p.limit p.bits p.block p.bit (p.block + p.settings.interval) fault

-- wanted and lawful coded data sets, from where an interval begins, decode to samples
abbrev pub AllSetsStandForSamples : Type 0
AllSetsStandForSamples = (s : Settings) (count : Option ℕ) (limit : ℕ) (bits : List Bool) (i b : ℕ)
    (sets : List CodedDataSet) (j e : ℕ) → IsAllowed s
    → i % s.interval ≡ 0 → LeadsTo s count limit bits i b sets j e
    → (samples : List ℤ) × ReadsPiece (place_at s count limit bits i b) samples (place_at s count limit bits j e)
