-- A coder that is fed in pieces: what it keeps, and what a piece adds.
use Rattle.std.specs.Prelude.{◌≡◌, ℕ, ◌+◌, ◌*◌, ◌/◌, ◌<◌, Bool, Option, Some, None, ℤ, List, [], ◌∷◌, ◌++◌, length, take, drop}
use Rattle.aec_params.specs.declared.settings.Settings.{Settings}
use Rattle.aec_params.specs.declared.fault.Fault.{Fault}
use Rattle.aec_params.specs.declared.fault.Fault.TheVariants.{Memory}
use Rattle.aec_params.specs.Params.{interval_len, storage_len}
use Rattle.aec_params.specs.Stored.{byte_groups}
use Rattle.aec_params.specs.Streams.{stream_of}
use Rattle.aec_interval.specs.Taking.{TakenSamples, taken_groups}

-- what is kept between pieces: the samples of an interval that isn't complete, the bytes of a
-- sample that isn't complete, how many samples there were so far, and the refusal, if there was one
-- (lists, where the code has a vector and four bytes)
pub record Coder : Type 0 where
  pub settings : Settings
  pub limit : ℕ
  pub held : List ℤ
  pub rest : List ℕ
  pub count : ℕ
  pub refusal : Option Fault

-- a coder that was fed nothing
abbrev pub fresh_coder : Settings → ℕ → Coder
fresh_coder s limit = record { settings = s; limit = limit; held = []; rest = []; count = 0; refusal = None }

-- the front of a list that is whole pieces of n
abbrev pub whole_front : {X : Type 0} → ℕ → List X → List X
whole_front n xs = take (length xs / n * n) xs

-- what `whole_front` leaves of a list
abbrev pub left_behind : {X : Type 0} → ℕ → List X → List X
left_behind n xs = drop (length xs / n * n) xs

-- the samples that a piece completes: those in the bytes that were left and the piece
abbrev pub taken_of : Coder → List ℕ → TakenSamples
taken_of c piece = taken_groups c.settings c.limit c.count (byte_groups c.settings (c.rest ++ piece))

-- the held samples, then those that a piece completes
abbrev pub samples_with : Coder → List ℕ → List ℤ
samples_with c piece = c.held ++ (taken_of c piece).samples

-- the coder after a piece: it holds what is left of the samples and of the bytes (of the whole
-- piece, where the code takes it in parts)
abbrev pub fed : Coder → List ℕ → Coder
fed c piece = record {
  settings = c.settings;
  limit = c.limit;
  held = left_behind (interval_len c.settings) (samples_with c piece);
  rest = left_behind (storage_len c.settings) (c.rest ++ piece);
  count = c.count + length (taken_of c piece).samples;
  refusal = (taken_of c piece).refusal;
}

-- the bits that a piece adds: the code of the intervals that are complete with it (of the whole
-- piece, where the code takes it in parts)
abbrev pub fed_bits : Coder → List ℕ → List Bool
fed_bits c piece = stream_of c.settings (whole_front (interval_len c.settings) (samples_with c piece))

-- a piece is taken: after it bits are `after`, and the coder is d
pub record Feeds (c : Coder) (piece : List ℕ) (before after : List Bool) (d : Coder) : Type 0 where
  pub taken : (taken_of c piece).refusal ≡ None
  pub bits : after ≡ before ++ fed_bits c piece
  pub coder : d ≡ fed c piece

-- a piece is refused at its first sample that is too many or out of range, and the code of the
-- intervals complete before that sample is appended; or it is refused with `Memory` at a sample
-- that is neither, and the code of some of these intervals is appended, from the first on
pub data StopsFeeding (c : Coder) (piece : List ℕ) (before after : List Bool) : Fault → Type 0 where
  refused : (fault : Fault) → (taken_of c piece).refusal ≡ Some fault → after ≡ before ++ fed_bits c piece
      → StopsFeeding c piece before after fault
  no_memory : (intervals : ℕ) (front behind : List ℤ) → samples_with c piece ≡ front ++ behind
      → length front ≡ intervals * interval_len c.settings → 0 < length behind → 0 < length (taken_of c piece).samples
      → after ≡ before ++ stream_of c.settings front → StopsFeeding c piece before after Memory

-- pieces are taken one after the other
abbrev pub FeedsAll : Coder → List (List ℕ) → List Bool → List Bool → Coder → Type 0
FeedsAll c [] before after d = (after ≡ before) × (d ≡ c)
FeedsAll c (piece ∷ pieces) before after e =
    (between : List Bool) × ((d : Coder) × (Feeds c piece before between d × FeedsAll d pieces between after e))
