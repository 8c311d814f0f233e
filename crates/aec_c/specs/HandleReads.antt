-- What a handle is opened with, and what is read from it.
use Rattle.std.specs.Prelude.{◌≡◌, ℕ, Option, Some, None, Result, Ok, Err, List, [], ℤ, length, take, drop}
use Rattle.aec_params.specs.declared.settings.Settings.{Settings}
use Rattle.aec_params.specs.declared.fault.Fault.{Fault}
use Rattle.aec_params.specs.declared.fault.Fault.TheVariants.{Memory}
use Rattle.aec_params.specs.Params.{IsAllowed}
use Rattle.aec_params.specs.Codewords.{bytes_of}
use Rattle.aec_params.specs.Limits.{most_samples}
use Rattle.aec_bits.specs.Codec.{code_of}
use Rattle.aec_interval.specs.IntervalFormat.{interval_format}
use Rattle.aec_edit.specs.Calls.{range_refusal, IsDue}
use Rattle.aec_c.specs.declared.kinds.OpenWorkspace.{OpenWorkspace}
use Rattle.aec_c.specs.declared.kinds.Open.{Open}
use Rattle.aec_c.specs.Kinds.{workspace_in}
use Rattle.aec_c.specs.declared.reply.Reply.{Reply}
use Rattle.aec_c.specs.Calls.{CannotBegin}
use Rattle.aec_c.specs.Replies.{done, refused_for, reply_to}
use Rattle.aec_engine.specs.Buffers.{left_of}
use Rattle.aec_c.specs.HandleCalls.{format_of, not_open}

-- an empty workspace over allowed settings, whose coder has been called neither to code nor to
-- decode
pub record IsFresh (s : Settings) (w : OpenWorkspace) : Type 0 where
  pub samples : w.workspace.samples ≡ []
  pub limit : w.workspace.limit ≡ most_samples
  pub calls : w.workspace.codec.calls ≡ 0
  pub reads : w.workspace.codec.reads ≡ 0
  pub format : format_of w ≡ interval_format s
  pub allowed : IsAllowed s

-- opening: a fresh workspace replaces what was held, or a refusal changes nothing
pub data Opens (s : Settings) (old new : Option Open) (reply : Reply) : Type 0 where
  fresh : (w : OpenWorkspace) → workspace_in new ≡ Some w → IsFresh s w → reply ≡ done 0 → Opens s old new reply
  refused : (fault : Fault) → CannotBegin s fault → new ≡ old
      → reply ≡ refused_for fault → Opens s old new reply

-- the number of samples; 0 if no workspace is held
abbrev pub size_in : Option OpenWorkspace → ℕ
size_in (Some w) = length w.workspace.samples
size_in None = 0

-- the number of the coder's calls; 0 if no workspace is held
abbrev pub calls_in : Option OpenWorkspace → ℕ
calls_in (Some w) = w.workspace.codec.calls
calls_in None = 0

-- the bytes of the code of a workspace's samples, or `Memory`
abbrev pub IsCodeOf : OpenWorkspace → Result (List ℕ) Fault → Type 0
IsCodeOf w (Ok bytes) = bytes ≡ bytes_of (code_of (format_of w) w.workspace.samples)
IsCodeOf w (Err fault) = fault ≡ Memory

-- the bytes of the code of a workspace's samples, written to a buffer
pub data WritesOut (old new : Option Open) (before after : List ℕ) (reply : Reply) : Type 0 where
  written : (w : OpenWorkspace) (answer : Result (List ℕ) Fault) → workspace_in old ≡ Some w → new ≡ old
      → IsCodeOf w answer → after ≡ left_of answer before
      → reply ≡ reply_to answer (length before) → WritesOut old new before after reply
  no_work : workspace_in old ≡ None → new ≡ old → after ≡ before → reply ≡ not_open
      → WritesOut old new before after reply

-- the samples of a range, or why they are refused: for their place, else with `Memory`
abbrev pub IsRangeOf : List ℤ → ℕ → ℕ → Result (List ℤ) Fault → Type 0
IsRangeOf samples first len (Ok part) = (part ≡ take len (drop first samples))
    × (range_refusal (length samples) first len ≡ None)
IsRangeOf samples first len (Err fault) = IsDue (range_refusal (length samples) first len) fault

-- a workspace with the same samples, limit, format and calls; it may have been read more often
pub record IsSameBut (before after : OpenWorkspace) : Type 0 where
  pub samples : after.workspace.samples ≡ before.workspace.samples
  pub limit : after.workspace.limit ≡ before.workspace.limit
  pub calls : after.workspace.codec.calls ≡ before.workspace.codec.calls
  pub format : format_of after ≡ format_of before

-- the samples of a range, written to a buffer
pub data ReadsOut (first len : ℕ) (old new : Option Open) (before after : List ℤ)
    (reply : Reply) : Type 0 where
  read : (w w' : OpenWorkspace) (answer : Result (List ℤ) Fault) → workspace_in old ≡ Some w
      → workspace_in new ≡ Some w' → IsSameBut w w'
      → IsRangeOf w.workspace.samples first len answer → after ≡ left_of answer before
      → reply ≡ reply_to answer (length before)
      → ReadsOut first len old new before after reply
  none_read : workspace_in old ≡ None → new ≡ old → after ≡ before → reply ≡ not_open
      → ReadsOut first len old new before after reply
