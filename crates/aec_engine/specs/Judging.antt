-- For proofs alone: no public contract cites this file.
-- A reader of bits that have been judged, and the room that their samples take.
use Rattle.std.specs.Prelude.{◌≡◌, ℕ, ◌+◌, ◌/◌, ◌-◌, ◌^◌, ◌≤◌, min, Bool, Option, None, ℤ, List}
use Rattle.std.specs.Int.{div_ceil}
use Rattle.aec_params.specs.declared.settings.Settings.{Settings}
use Rattle.aec_params.specs.Limits.{Caps, AreLimits}
use Rattle.aec_params.specs.Params.{interval_len}
use Rattle.aec_params.specs.Reading.{IsReading}
use Rattle.aec_interval.specs.Reached.{count_refusal}
use Rattle.aec_interval.specs.Pieces.{Place}
use Rattle.aec_engine.specs.ReadingTwice.{AreSamplesOf, EndsAt, HaveSamples, IsAtStart}

-- a reader at the first bit of judged bits, whose samples can be read
pub record IsUnread (p : Place) (s : Settings) : Type 0 where
  pub start : IsAtStart p s
  pub within : count_refusal p.limit p.count ≡ None
  pub read : (xs : List ℤ) × AreSamplesOf p xs

-- a reader of judged bits, and the result of judging: the bit where all is read, and the number of
-- samples
pub record IsJudgedReader (s : Settings) (caps : Caps) (count : Option ℕ) (bits : List Bool) (p : Place)
    (end total : ℕ) : Type 0 where
  pub unread : IsUnread p s
  pub limit : p.limit ≡ caps.samples
  pub limits : AreLimits caps
  pub counted : count_refusal caps.samples count ≡ None
  pub samples : (xs : List ℤ) → AreSamplesOf p xs → IsReading s count caps.samples bits xs
  pub ends : EndsAt p end
  pub have : HaveSamples p total

-- There is room for all bits that the samples are read from, and for the starts of their intervals.
-- Their own code can be longer: it may have another filler, or be padded.
pub record HasRoomOfRead (p : Place) (bits intervals : ℕ) : Type 0 where
  pub end : ℕ
  pub total : ℕ
  pub ends : EndsAt p end
  pub have : HaveSamples p total
  pub bits_fit : end ≤ bits
  pub intervals_fit : div_ceil total (interval_len p.settings) ≤ intervals

-- The room that an edit asks for: for the bits that the samples are read from and a sixteenth more,
-- but for at most 2^64 - 1 bits, and for the starts of their intervals.
pub record AsksForRead (p : Place) (bits intervals : ℕ) : Type 0 where
  pub end : ℕ
  pub total : ℕ
  pub ends : EndsAt p end
  pub have : HaveSamples p total
  pub bits_fit : end ≤ bits
  pub bits_asked : bits ≡ min (end + end / 16) (2 ^ 64 - 1)
  pub intervals_asked : intervals ≡ div_ceil total (interval_len p.settings)
