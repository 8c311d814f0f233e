-- For proofs alone: no public contract cites this file.
-- What the parts of decoding return: the bits of a source, and the results of their two readings.
use Rattle.std.specs.Prelude.{◌≡◌, ℕ, ◌+◌, ◌%◌, ◌<◌, ◌≤◌, Bool, true, false, Option, None, Result, Ok, Err, ℤ, List, Vec, ◌++◌, length, vec_len, vec_capacity}
use Rattle.std.specs.List.{AllByRecursion}
use Rattle.aec_params.specs.declared.settings.Settings.{Settings}
use Rattle.aec_params.specs.declared.fault.Fault.{Fault}
use Rattle.aec_params.specs.declared.fault.Fault.TheVariants.{OutOfRange, Memory}
use Rattle.aec_params.specs.Params.{IsHeld}
use Rattle.aec_params.specs.Codewords.{bits_of_bytes}
use Rattle.aec_params.specs.Reading.{IsReading}
use Rattle.aec_params.specs.Limits.{most_blocks}
use Rattle.aec_interval.specs.Reached.{count_refusal, RefusesDecoding}
use Rattle.aec_interval.specs.Pieces.{Place, place_at, is_wanted_at, HasRead}
use Rattle.aec_engine.specs.Transfers.{input_of, Taking, are_past, Gave, IsTakenWhole, Putting, Settles}
use Rattle.aec_engine.specs.Output.{all_stored, samples_from}

-- a source returned bytes with these bits, and failed after them or not
pub record GaveBits (source : Taking) (limit : ℕ) (bits : List Bool) (failed : Bool) : Type 0 where
  pub bytes : List ℕ
  pub gave : Gave source (are_past limit) (input_of bytes failed)
  pub spelled : bits ≡ bits_of_bytes bytes
  pub within : failed ≡ true → length bytes ≤ limit

-- the bits of a source that was taken whole
pub record GaveWhole (before after : Option (List ℕ)) (failures limit : ℕ) (bits : List Bool) : Type 0 where
  pub bytes : List ℕ
  pub taken : IsTakenWhole before after failures limit bytes
  pub spelled : bits ≡ bits_of_bytes bytes

-- bits decode to these samples
pub record AreSamplesOf (p : Place) (samples : List ℤ) : Type 0 where
  pub reading : IsReading p.settings p.count p.limit p.bits samples

-- a reader at the first bit
pub record IsAtStart (p : Place) (s : Settings) : Type 0 where
  pub settings : p.settings ≡ s
  pub block : p.block ≡ 0
  pub bit : p.bit ≡ 0

-- At place p more is wanted and an interval begins. From there samples were read up to place q:
-- what was read up to p, followed by these samples, is what is read up to q.
pub record ReadsOn (p : Place) (samples : List ℤ) (q : Place) : Type 0 where
  pub wanted : is_wanted_at p ≡ true
  pub begins : p.block % p.settings.interval ≡ 0
  pub ahead : p.block < q.block
  pub same : q ≡ place_at p.settings p.count p.limit p.bits q.block q.bit
  pub held : AllByRecursion (IsHeld p.settings) samples
  pub behind : (front : List ℤ) → HasRead p front → HasRead q (front ++ samples)

-- if all samples can be read, the only fault is `Memory`
abbrev pub LacksMemoryAlone : Place → Fault → Type 0
LacksMemoryAlone p fault = (front samples : List ℤ) → HasRead p front → AreSamplesOf p samples → fault ≡ Memory

-- `before` samples, at most `first`, were read up to a place where an interval begins or all is
-- read, in fewer than `most_blocks` blocks
pub record IsBegun (p : Place) (before first : ℕ) : Type 0 where
  pub samples : List ℤ
  pub read : HasRead p samples
  pub counted : length samples ≡ before
  pub at_most : before ≤ first
  pub few : p.block < most_blocks
  pub begins : is_wanted_at p ≡ true → p.block % p.settings.interval ≡ 0

-- samples can be read from a place after `before` samples, for a range from `first` on
pub record IsReadyAt (p : Place) (s : Settings) (before first : ℕ) : Type 0 where
  pub settings : p.settings ≡ s
  pub read : (xs : List ℤ) × AreSamplesOf p xs
  pub begun : IsBegun p before first

-- `before` samples were read up to such a place, and these are their bytes
pub record KeepsFront (p : Place) (s : Settings) (before : ℕ) (bytes : List ℕ) : Type 0 where
  pub samples : List ℤ
  pub read : HasRead p samples
  pub counted : length samples ≡ before
  pub kept : bytes ≡ all_stored s samples
  pub few : p.block < most_blocks
  pub begins : is_wanted_at p ≡ true → p.block % p.settings.interval ≡ 0

-- a vector has at most `more` more items, and no less room
pub record HasSpare {X Z : Type 0} (old new : Vec X Z) (more : ℕ) : Type 0 where
  pub len : vec_len new ≤ vec_len old + more
  pub capacity : vec_capacity old ≤ vec_capacity new

-- all samples are read up to this bit, where no more is wanted
pub record EndsAt (p : Place) (bit : ℕ) : Type 0 where
  pub block : ℕ
  pub samples : List ℤ
  pub read : HasRead (place_at p.settings p.count p.limit p.bits block bit) samples
  pub done : is_wanted_at (place_at p.settings p.count p.limit p.bits block bit) ≡ false

-- bits decode to `total` samples
pub record HaveSamples (p : Place) (total : ℕ) : Type 0 where
  pub samples : List ℤ
  pub reading : IsReading p.settings p.count p.limit p.bits samples
  pub counted : length samples ≡ total

-- all samples were judged, and the reader is where it was: the bit where they end, and how many
-- they are
pub record Judges (old new : Place) (end total : ℕ) : Type 0 where
  pub have : HaveSamples old total
  pub ends : EndsAt old end
  pub same : new ≡ old

-- the bytes of a part of samples, or `Memory`
pub data StoresPart (s : Settings) (first len : ℕ) (samples : List ℤ) : Result (List ℕ) Fault → Type 0 where
  stored : StoresPart s first len samples (Ok (all_stored s (samples_from first len samples)))
  no_room : StoresPart s first len samples (Err Memory)

-- the results of decoding bits
pub data DecodesBits (s : Settings) (count : Option ℕ) (limit : ℕ) (bits : List Bool) : Result (List ℕ) Fault
    → Type 0 where
  read : (samples : List ℤ) → count_refusal limit count ≡ None → IsReading s count limit bits samples
      → DecodesBits s count limit bits (Ok (all_stored s samples))
  unread : (fault : Fault) → RefusesDecoding s count limit bits fault → DecodesBits s count limit bits (Err fault)
  no_memory : DecodesBits s count limit bits (Err Memory)

-- the results of cutting a range out of bits
pub data CutsBits (s : Settings) (count : Option ℕ) (limit first len : ℕ) (bits : List Bool) : Result (List ℕ) Fault
    → Type 0 where
  cut : (samples : List ℤ) → count_refusal limit count ≡ None → IsReading s count limit bits samples
      → first + len ≤ length samples
      → CutsBits s count limit first len bits (Ok (all_stored s (samples_from first len samples)))
  past : (samples : List ℤ) → count_refusal limit count ≡ None → IsReading s count limit bits samples
      → length samples < first + len
      → CutsBits s count limit first len bits (Err (OutOfRange (length samples)))
  not_read : (fault : Fault) → RefusesDecoding s count limit bits fault
      → CutsBits s count limit first len bits (Err fault)
  lacks_memory : CutsBits s count limit first len bits (Err Memory)

-- one of these results is written, or refused with nothing written
pub record SettlesOne (answers : Result (List ℕ) Fault → Type 0) (sink : Putting)
    (result : Result (Unit {0}) Fault) : Type 0 where
  pub answer : Result (List ℕ) Fault
  pub answered : answers answer
  pub settles : Settles sink answer result
