-- For proofs alone: no public contract cites this file.
-- Edits of a script that are applied before all samples are loaded.
use Rattle.std.specs.Prelude.{◌≡◌, ℕ, ◌+◌, ◌^◌, ◌≤◌, ◌⊎◌, Bool, Option, None, Result, Ok, Err, ℤ, List, [], ◌++◌, length}
use Rattle.aec_params.specs.declared.settings.Settings.{Settings}
use Rattle.aec_params.specs.declared.fault.Fault.{Fault}
use Rattle.aec_params.specs.declared.fault.Fault.TheVariants.{Memory}
use Rattle.aec_params.specs.Limits.{Caps, most_samples}
use Rattle.aec_params.specs.Params.{IsAllowed}
use Rattle.aec_params.specs.Reading.{IsReading}
use Rattle.aec_bits.specs.Codec.{Format}
use Rattle.aec_edit.specs.Workspace.{Contents}
use Rattle.aec_interval.specs.Reached.{count_refusal, RefusesDecoding}
use Rattle.aec_interval.specs.IntervalFormat.{interval_format}
use Rattle.aec_interval.specs.Pieces.{Place}
use Rattle.aec_engine.specs.declared.scripts.EditFault.{EditFault}
use Rattle.aec_engine.specs.declared.scripts.EditFault.TheVariants.{Plain}
use Rattle.aec_engine.specs.ReadingTwice.{AreSamplesOf}
use Rattle.aec_engine.specs.Scripts.{Listing}
use Rattle.aec_engine.specs.Editing.{Left, left_with, edits_left, first_calls, LacksMemoryOn, Recoded}
use Rattle.aec_engine.specs.EditingSteps.{StopsEditing, recoded_of}

-- Some edits, applied to some samples, lead to other edits on what is left: both leave the same
-- samples and calls or have the same refusal, and where the latter lack memory the former do.
pub record LeadsToEdits (f : Format) (limit : ℕ) (from : Left) (script : Listing) (to : Left)
    (ahead : Listing) : Type 0 where
  pub same : edits_left f limit from.calls from.samples script.edits script.lines
      ≡ edits_left f limit to.calls to.samples ahead.edits ahead.lines
  pub lacks : (line : ℕ) → LacksMemoryOn f limit to.calls to.samples ahead.edits ahead.lines line
      → LacksMemoryOn f limit from.calls from.samples script.edits script.lines line

-- The edits of a script were applied to the samples loaded so far, up to those ahead. Whatever
-- samples are loaded after them, and however often the coder has been called before (far from the
-- most that it can be), the edits of the script lead to those ahead.
pub record CarriesEarly (f : Format) (limit : ℕ) (script : Listing) (s : List ℤ) (calls : ℕ) (ahead : Listing)
    (left : List ℤ)
    (calls_after : ℕ) : Type 0 where
  pub made : ℕ
  pub counted : calls_after ≡ calls + made
  pub few : (made ≡ 0) ⊎ (calls_after ≤ 2 ^ 62 + most_samples)
  pub len : length left ≡ length s
  pub leads : (rest : List ℤ) (due : ℕ) → due ≤ 2 ^ 63
      → LeadsToEdits f limit (left_with (s ++ rest) due) script (left_with (left ++ rest) (due + made)) ahead

-- one of the edits was refused, whatever samples are loaded after these
abbrev pub StopsEarly : Format → ℕ → Listing → List ℤ → EditFault → Type 0
StopsEarly f limit script s fault =
    (rest : List ℤ) (due : ℕ) → due ≤ 2 ^ 63 → StopsEditing f limit due (s ++ rest) script.edits script.lines fault

-- a workspace without samples, over a codec that has coded nothing, for the samples of a reader
pub record IsEmptyFor (start : Place) (f : Format) (limit : ℕ) (samples : List ℤ) (called : ℕ) : Type 0 where
  pub allowed : IsAllowed start.settings
  pub format : f ≡ interval_format start.settings
  pub limit_is : limit ≡ start.limit
  pub bound : limit ≤ most_samples
  pub empty : samples ≡ []
  pub fresh : called ≡ 0

-- all samples that bits decode to were loaded, and meanwhile the edits up to those ahead were
-- applied (the code loads them by whole intervals; `IsInside` of aec_edit says which edits are
-- applied early)
abbrev pub LoadsAll : Format → ℕ → Listing → Place → Listing → List ℤ → ℕ → Type 0
LoadsAll f limit script start ahead left calls =
    (xs : List ℤ) → AreSamplesOf start xs
    → LeadsToEdits f limit (left_with xs (first_calls f xs)) script (left_with left calls) ahead

-- not all samples were loaded: there was no memory, or an edit was refused
abbrev pub StopsLoading : Format → ℕ → Listing → Place → EditFault → Type 0
StopsLoading f limit script start fault =
    (fault ≡ Plain Memory) ⊎ ((xs : List ℤ) → AreSamplesOf start xs
    → StopsEditing f limit (first_calls f xs) xs script.edits script.lines fault)

-- the results of applying edits to samples that can all be read
pub data EditsSamples (s : Settings) (limit : ℕ) (start : Place) (script : Listing) : Result Recoded EditFault
    → Type 0 where
  no_room : EditsSamples s limit start script (Err (Plain Memory))
  stops : (fault : EditFault) → ((xs : List ℤ) → AreSamplesOf start xs
      → StopsEditing (interval_format s) limit (first_calls (interval_format s) xs) xs script.edits script.lines fault)
      → EditsSamples s limit start script (Err fault)
  makes : (left : Left) → ((xs : List ℤ) → AreSamplesOf start xs
      → edits_left (interval_format s) limit (first_calls (interval_format s) xs) xs script.edits script.lines
      ≡ Ok left)
      → EditsSamples s limit start script (Ok (recoded_of (interval_format s) left.samples left.calls))

-- the results of applying edits to the samples that bits decode to
pub data EditsBits (s : Settings) (caps : Caps) (count : Option ℕ) (bits : List Bool) (script : Listing)
    : Result Recoded EditFault → Type 0 where
  not_read : (fault : Fault) → RefusesDecoding s count caps.samples bits fault
      → EditsBits s caps count bits script (Err (Plain fault))
  lacks_room : EditsBits s caps count bits script (Err (Plain Memory))
  stopped : (samples : List ℤ) (fault : EditFault) → count_refusal caps.samples count ≡ None
      → IsReading s count caps.samples bits samples
      → StopsEditing (interval_format s) caps.samples
      (first_calls (interval_format s) samples) samples script.edits script.lines fault
      → EditsBits s caps count bits script (Err fault)
  made : (samples : List ℤ) (left : Left) → count_refusal caps.samples count ≡ None
      → IsReading s count caps.samples bits samples
      → edits_left (interval_format s) caps.samples
      (first_calls (interval_format s) samples) samples script.edits script.lines ≡ Ok left
      → EditsBits s caps count bits script (Ok (recoded_of (interval_format s) left.samples left.calls))

-- a workspace without samples over a codec
pub record IsEmptyOver {C : Type 0} (codec : C) (limit : ℕ) (workspace : Contents C) : Type 0 where
  pub samples : workspace.samples ≡ []
  pub limit_is : workspace.limit ≡ limit
  pub codec_is : workspace.codec ≡ codec
