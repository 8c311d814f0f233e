-- What the private functions of `stream_coder::pieces` keep: a coder without a refusal, by its
-- parts. `StreamCoder::feed` cites none of this.
use Rattle.std.specs.Prelude.{◌≡◌, ℕ, ◌+◌, ◌*◌, ◌/◌, ◌%◌, ◌<◌, ◌≤◌, ◌⊎◌, nat_lt, if◌then◌else◌, Bool, Option, None, Result, MatchResult, ℤ, List, [], ◌++◌, length}
use Rattle.std.specs.Result.{result_err}
use Rattle.std.specs.List.{AllByRecursion}
use Rattle.aec_params.specs.declared.settings.Settings.{Settings}
use Rattle.aec_params.specs.declared.fault.Fault.{Fault}
use Rattle.aec_params.specs.declared.fault.Fault.TheVariants.{SampleRange, TooManySamples}
use Rattle.aec_params.specs.Params.{IsAllowed, IsHeld, interval_len, storage_len}
use Rattle.aec_params.specs.Stored.{samples_of_bytes}
use Rattle.aec_interval.specs.Feeding.{Coder, Feeds, StopsFeeding}
use Rattle.aec_interval.specs.declared.stream_coder.pieces.Progress.{Progress}
use Rattle.aec_interval.specs.declared.stream_coder.pieces.Terms.{Terms}

-- a coder by its parts
abbrev pub coder_with : Terms → Progress → List ℕ → Option Fault → Coder
coder_with terms progress rest refusal = record {
  settings = terms.params;
  limit = terms.limit;
  held = progress.held;
  rest = rest;
  count = progress.count;
  refusal = refusal;
}

-- a coder by its parts, without a refusal
abbrev pub coder_at : Terms → Progress → List ℕ → Coder
coder_at terms progress rest = coder_with terms progress rest None

-- samples of an interval that isn't complete
pub record AreHeldFew (s : Settings) (held : List ℤ) : Type 0 where
  pub allowed : IsAllowed s
  pub samples : AllByRecursion (IsHeld s) held
  pub few : length held < interval_len s

-- samples of an interval that isn't complete; all samples so far are at most the limit
pub record IsProgress (terms : Terms) (progress : Progress) : Type 0 where
  pub held : AreHeldFew terms.params progress.held
  pub within : progress.count ≤ terms.limit

-- samples of an incomplete interval, and bytes of an incomplete sample after them, maybe none
pub record IsProgressWithRest (terms : Terms) (so_far : Progress) (rest : List ℕ) : Type 0 where
  pub progress : IsProgress terms so_far
  pub short : length rest < storage_len terms.params

-- `count` samples are fewer than an interval has, or those of whole intervals
abbrev pub IsFewOrWhole : ℕ → ℕ → Type 0
IsFewOrWhole interval count = (count < interval) ⊎ (count % interval ≡ 0)

-- why sample i is refused, if it is
abbrev pub refusal_at : ℕ → ℕ → Fault
refusal_at limit i = if nat_lt i limit then SampleRange i else TooManySamples limit

-- bytes of whole samples, at least one, of which none is refused; with those that are held they are
-- fewer than an interval has, or those of whole intervals
pub record IsPart (terms : Terms) (progress : Progress) (bytes : List ℕ) : Type 0 where
  pub samples : ℕ
  pub whole : length bytes ≡ samples * storage_len terms.params
  pub some : 0 < samples
  pub fills : IsFewOrWhole (interval_len terms.params) (length progress.held + samples)
  pub good : result_err (samples_of_bytes terms.params bytes) ≡ None
  pub within : progress.count + length bytes / storage_len terms.params ≤ terms.limit

-- the result of a piece: it is taken, and the coder is then d, or it is refused
abbrev pub AnswersPiece : {X : Type 0} → Coder → List ℕ → List Bool → Result X Fault → Coder → List Bool → Type 0
AnswersPiece c piece before result d after =
    MatchResult result (λ _. Feeds c piece before after d) (λ fault. StopsFeeding c piece before after fault)

-- bytes are taken or refused if no sample is begun; the held samples are then those of an
-- incomplete interval
pub record TakesPart (terms : Terms) (old : Progress) (bytes : List ℕ) (before : List Bool)
    (result : Result (Unit {0}) Fault) (new : Progress) (after : List Bool) : Type 0 where
  pub takes : AnswersPiece (coder_at terms old []) bytes before result (coder_at terms new []) after
  pub progress : IsProgress terms new

-- the front of a piece is taken, and the coder is then d; `left` is what comes after that front
pub record FeedsFront (c : Coder) (piece left : List ℕ) (before after : List Bool) (d : Coder) : Type 0 where
  pub front : List ℕ
  pub cut : piece ≡ front ++ left
  pub feeds : Feeds c front before after d
