-- How far a reading has come, and why it stops.
use Rattle.std.specs.Prelude.{◌≡◌, ◌<◌, ◌≤◌, ℕ, Bool, if◌then◌else◌, nat_lt, Option, Some, None, ℤ, List, [], ◌∷◌, ◌++◌, length}
use Rattle.aec_params.specs.declared.settings.Settings.{Settings}
use Rattle.aec_params.specs.declared.fault.Fault.{Fault}
use Rattle.aec_params.specs.declared.fault.Fault.TheVariants.{Memory, TooManySamples}
use Rattle.aec_params.specs.Blocks.{Block}
use Rattle.aec_params.specs.CodedDataSets.{CodedDataSet}
use Rattle.aec_params.specs.Reading.{LeadsTo, stream_blocks, kept_blocks, IsBlockReading, FillBlocks, counted_samples}
use Rattle.aec_params.specs.Faults.{IsFault}

-- samples that fill `count` blocks (`decode_all` cites `IsReading` and `IsFault` instead of
-- `AreFilled`, `IsReached` and `IsReadFrom`)
pub record AreFilled (s : Settings) (count : ℕ) (samples : List ℤ) : Type 0 where
  pub blocks : List Block
  pub filled : FillBlocks s samples blocks
  pub count_is : length blocks ≡ count

-- from block `first` at position `start` on, coded data sets lead to block i at position b, and the
-- samples fill the blocks that are kept of them
pub record IsReached (s : Settings) (count : Option ℕ) (limit : ℕ) (bits : List Bool) (first start i b : ℕ)
    (samples : List ℤ) : Type 0 where
  pub sets : List CodedDataSet
  pub leads : LeadsTo s count limit bits first start sets i b
  pub filled : FillBlocks s samples (kept_blocks s count first (stream_blocks s first sets))

-- the bits from position `start` on, where an interval begins, decode to these samples
pub record IsReadFrom (s : Settings) (count : Option ℕ) (limit : ℕ) (bits : List Bool) (start : ℕ)
    (samples : List ℤ) : Type 0 where
  pub blocks : List Block
  pub read : IsBlockReading s count limit bits 0 start blocks
  pub all_samples : List ℤ
  pub filled : FillBlocks s all_samples blocks
  pub counted : samples ≡ counted_samples count all_samples

-- at least one coded data set was read that no fault refuses: from block `first` at position
-- `start` on, wanted and lawful coded data sets within the limit lead past a last one
pub record LeadsBehindOne (s : Settings) (count : Option ℕ) (limit : ℕ) (bits : List Bool)
    (first start : ℕ) : Type 0 where
  pub sets : List CodedDataSet
  pub last : CodedDataSet
  pub block : ℕ
  pub bit : ℕ
  pub leads : LeadsTo s count limit bits first start (sets ++ (last ∷ [])) block bit

-- why a reading from block `first` at position `start` on returns no samples: its fault, or a lack
-- of memory for those of a coded data set that was read
pub data RefusesReading (s : Settings) (count : Option ℕ) (limit : ℕ) (bits : List Bool) (first start : ℕ) : Fault
    → Type 0 where
  no_memory : LeadsBehindOne s count limit bits first start → RefusesReading s count limit bits first start Memory
  faulty : (fault : Fault) → IsFault s count limit bits first start fault
      → RefusesReading s count limit bits first start fault

-- why such a reading is refused up to block `end`: the fault of a coded data set that would begin
-- before `end`, or a lack of memory for the samples of sets that lead to `end` at most
pub data RefusesUpTo (s : Settings) (count : Option ℕ) (limit : ℕ) (bits : List Bool) (first start end : ℕ) : Fault
    → Type 0 where
  no_room : (h : LeadsBehindOne s count limit bits first start) → h.block ≤ end
      → RefusesUpTo s count limit bits first start end Memory
  wrong_before : (fault : Fault) (h : IsFault s count limit bits first start fault) → h.block < end
      → RefusesUpTo s count limit bits first start end fault

-- the refusal of a sample count that is above the limit (§12; before any coded data set is read)
abbrev pub count_refusal : ℕ → Option ℕ → Option Fault
count_refusal limit (Some count) = if nat_lt limit count then Some (TooManySamples limit) else None
count_refusal limit None = None

-- why bits are not decoded: a count above the limit, and else what the reading meets (§12)
pub data RefusesDecoding (s : Settings) (count : Option ℕ) (limit : ℕ) (bits : List Bool) : Fault → Type 0 where
  above_limit : (fault : Fault) → count_refusal limit count ≡ Some fault → RefusesDecoding s count limit bits fault
  unread : (fault : Fault) → count_refusal limit count ≡ None → RefusesReading s count limit bits 0 0 fault
      → RefusesDecoding s count limit bits fault
