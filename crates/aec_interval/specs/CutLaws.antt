-- The laws of a coder that is fed in pieces: however its input is cut, the result is the stream of
-- all samples.
use Rattle.std.specs.Prelude.{◌≡◌, ℕ, ◌≤◌, Bool, Ok, ℤ, List, [], ◌++◌, length}
use Rattle.std.specs.List.{flat_map}
use Rattle.aec_params.specs.declared.settings.Settings.{Settings}
use Rattle.aec_params.specs.declared.fault.Fault.{Fault}
use Rattle.aec_params.specs.Params.{IsAllowed}
use Rattle.aec_params.specs.Stored.{samples_of_bytes}
use Rattle.aec_params.specs.Streams.{stream_of}
use Rattle.aec_interval.specs.Taking.{judged_samples}
use Rattle.aec_interval.specs.Feeding.{Coder, fresh_coder, taken_of, Feeds, StopsFeeding, FeedsAll}

-- the pieces one after the other
abbrev pub all_bytes : List (List ℕ) → List ℕ
all_bytes pieces = flat_map (λ piece. piece) pieces

-- all whole samples of the bytes are in range; their number is `d.count`, at most the limit. The
-- appended bits and the code of the samples that d still holds are the stream of all samples
pub record IsStreamSoFar (s : Settings) (limit : ℕ) (bytes : List ℕ) (before after : List Bool)
    (d : Coder) : Type 0 where
  pub samples : List ℤ
  pub taken : samples_of_bytes s bytes ≡ Ok samples
  pub bits : after ++ stream_of s d.held ≡ before ++ stream_of s samples
  pub counted : d.count ≡ length samples
  pub within : length samples ≤ limit

-- however bytes are cut into pieces, a new coder's stream or refusal is that of the same bytes in
-- one piece
pub record CutsMakeNoDifference (s : Settings) (limit : ℕ) : Type 0 where
  -- if all pieces are taken, what was appended and what `finish` appends is the stream of the
  -- samples of all bytes
  pub stream : (pieces : List (List ℕ)) (before after : List Bool) (d : Coder)
      → FeedsAll (fresh_coder s limit) pieces before after d
      → IsStreamSoFar s limit (all_bytes pieces) before after d
  -- if all pieces are taken, one piece of all their bytes is taken too, with the same bits and the
  -- same coder after it
  pub taken : (pieces : List (List ℕ)) (before after : List Bool) (d : Coder)
      → FeedsAll (fresh_coder s limit) pieces before after d
      → Feeds (fresh_coder s limit) (all_bytes pieces) before after d
  -- if the piece after these is refused, one piece of all bytes is refused with the same fault and
  -- the same bits, whatever bytes come after them
  pub refused : (pieces : List (List ℕ)) (piece rest : List ℕ) (before between after : List Bool) (d : Coder)
      (fault : Fault)
      → FeedsAll (fresh_coder s limit) pieces before between d → StopsFeeding d piece between after fault
      → StopsFeeding (fresh_coder s limit) (all_bytes pieces ++ (piece ++ rest)) before after fault
  -- the refusal of bytes in one piece is that of `judged_samples`: the first sample out of range if
  -- it lies before the limit; else `TooManySamples` if there are more samples than the limit
  pub judged : (bytes : List ℕ) → (taken_of (fresh_coder s limit) bytes).refusal
      ≡ judged_samples limit (samples_of_bytes s bytes)
  -- a new coder has taken no bytes; if it has taken bytes and takes a piece, it has taken both
  pub begun : (bits : List Bool) → Feeds (fresh_coder s limit) [] bits bits (fresh_coder s limit)
  pub more : (bytes piece : List ℕ) (before between after : List Bool) (d e : Coder)
      → Feeds (fresh_coder s limit) bytes before between d
      → Feeds d piece between after e → Feeds (fresh_coder s limit) (bytes ++ piece) before after e

-- `CutsMakeNoDifference` at all allowed settings and all limits
abbrev pub AllCutsMakeNoDifference : Type 0
AllCutsMakeNoDifference = (s : Settings) (limit : ℕ) → IsAllowed s → CutsMakeNoDifference s limit
