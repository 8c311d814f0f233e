-- What a handle is loaded with.
use Rattle.std.specs.Prelude.{◌≡◌, ℕ, ◌⊎◌, Option, Some, [], List, ℤ, length}
use Rattle.aec_params.specs.declared.settings.Settings.{Settings}
use Rattle.aec_params.specs.declared.fault.Fault.{Fault}
use Rattle.aec_params.specs.declared.fault.Fault.TheVariants.{Memory}
use Rattle.aec_params.specs.declared.edit.Edit.TheVariants.{Append}
use Rattle.aec_params.specs.Params.{IsAllowed, settings_fault}
use Rattle.aec_params.specs.Codewords.{bits_of_bytes}
use Rattle.aec_params.specs.Reading.{IsReading}
use Rattle.aec_params.specs.Limits.{most_samples}
use Rattle.aec_interval.specs.IntervalFormat.{interval_format}
use Rattle.aec_interval.specs.Reached.{RefusesDecoding}
use Rattle.aec_edit.specs.Calls.{due_refusal}
use Rattle.aec_edit.specs.Workspace.{interval_count}
use Rattle.aec_c.specs.declared.kinds.OpenWorkspace.{OpenWorkspace}
use Rattle.aec_c.specs.declared.kinds.Open.{Open}
use Rattle.aec_c.specs.Kinds.{workspace_in}
use Rattle.aec_c.specs.declared.reply.Reply.{Reply}
use Rattle.aec_c.specs.Replies.{done, refused_for}
use Rattle.aec_c.specs.HandleCalls.{format_of}

-- bytes decode to samples, of which there are at most `most_samples`
abbrev pub AreRead : Settings → Option ℕ → List ℕ → List ℤ → Type 0
AreRead s count bytes samples = IsReading s count most_samples (bits_of_bytes bytes) samples

-- why bytes aren't decoded: the options; or, if they are allowed, a refusal of decoding or `Memory`
pub data CannotRead (s : Settings) (count : Option ℕ) (bytes : List ℕ) (fault : Fault) : Type 0 where
  bad_options : settings_fault s ≡ Some fault → CannotRead s count bytes fault
  not_read : IsAllowed s → RefusesDecoding s count most_samples (bits_of_bytes bytes) fault
      → CannotRead s count bytes fault
  no_memory : IsAllowed s → fault ≡ Memory → CannotRead s count bytes fault

-- a workspace with these samples over allowed settings, whose coder has counted one call for each
-- interval of them, and no call to decode
pub record Holds (s : Settings) (samples : List ℤ) (w : OpenWorkspace) : Type 0 where
  pub samples_are : w.workspace.samples ≡ samples
  pub limit : w.workspace.limit ≡ most_samples
  pub calls : w.workspace.codec.calls ≡ interval_count (interval_format s) samples
  pub reads : w.workspace.codec.reads ≡ 0
  pub format : format_of w ≡ interval_format s
  pub allowed : IsAllowed s

-- why samples aren't taken into an empty workspace: the options; or, if they are allowed, a refusal
-- of appending them or `Memory`
abbrev pub CannotHold : Settings → List ℤ → Fault → Type 0
CannotHold s samples fault =
    (settings_fault s ≡ Some fault) ⊎ (IsAllowed s × ((fault ≡ Memory)
    ⊎ (due_refusal (interval_format s) most_samples [] 0 (Append samples) ≡ Some fault)))

-- loading: a workspace with the samples that bytes decode to replaces what was held, or a refusal
-- changes nothing
pub data Loads (s : Settings) (count : Option ℕ) (bytes : List ℕ) (old new : Option Open)
    (reply : Reply) : Type 0 where
  loaded : (samples : List ℤ) (w : OpenWorkspace) → AreRead s count bytes samples → workspace_in new ≡ Some w
      → Holds s samples w → reply ≡ done (length samples)
      → Loads s count bytes old new reply
  unread : (fault : Fault) → CannotRead s count bytes fault → new ≡ old → reply ≡ refused_for fault
      → Loads s count bytes old new reply
  not_held : (samples : List ℤ) (fault : Fault) → AreRead s count bytes samples → CannotHold s samples fault → new ≡ old
      → reply ≡ refused_for fault → Loads s count bytes old new reply
