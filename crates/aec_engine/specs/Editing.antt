-- The result of carrying out a script: a function of the script and the coded input, or one
-- refusal.
use Rattle.std.specs.Prelude.{◌≡◌, ℕ, ◌+◌, ◌<◌, ◌⊎◌, Option, Some, None, option_map, Result, Ok, Err, ℤ, List, ◌∷◌, length}
use Rattle.std.specs.Option.{option_or, option_map_or}
use Rattle.std.specs.Io.KnownBytes.{Appends, Keeps}
use Rattle.aec_params.specs.declared.settings.Settings.{Settings}
use Rattle.aec_params.specs.declared.fault.Fault.{Fault}
use Rattle.aec_params.specs.declared.fault.Fault.TheVariants.{Script, Memory, Write}
use Rattle.aec_params.specs.declared.edit.Edit.{Edit}
use Rattle.aec_params.specs.declared.edit.Edit.TheVariants.{Append}
use Rattle.aec_params.specs.Limits.{Caps}
use Rattle.aec_params.specs.Codewords.{bytes_of}
use Rattle.aec_params.specs.Streams.{stream_of}
use Rattle.aec_params.specs.Edits.{samples_after, needed_calls}
use Rattle.aec_bits.specs.Codec.{Format}
use Rattle.aec_bits.specs.Devices.{AppendsFront}
use Rattle.aec_edit.specs.Calls.{due_refusal}
use Rattle.aec_interval.specs.IntervalFormat.{interval_format}
use Rattle.aec_engine.specs.declared.scripts.EditFault.{EditFault}
use Rattle.aec_engine.specs.declared.scripts.EditFault.TheVariants.{Plain, Line}
use Rattle.aec_engine.specs.Output.{intake_refusal, IsRead, IsDecoded}
use Rattle.aec_engine.specs.Scripts.{Listing, listing_of}
use Rattle.aec_engine.specs.Transfers.{Input, Taking, Putting, are_past, Gave, WroteNothing, IsBegunFirst, answer_by}

-- why a script is refused: as an input that is read whole, else for its first line that is no edit
-- (COMMAND: Order of a run)
abbrev pub script_refusal : ℕ → Input → Option Fault
script_refusal limit script =
    option_or (intake_refusal limit script) (option_map (λ n. Script n) (listing_of script.bytes).bad)

-- what edits leave: samples, and how often the coder has been called
pub record Left : Type 0 where
  pub samples : List ℤ
  pub calls : ℕ

-- these samples, after this number of calls of the coder
abbrev pub left_with : List ℤ → ℕ → Left
left_with samples calls = record { samples = samples; calls = calls }

-- What edits of the samples s leave, each with its line, applied one after the other after `calls`
-- calls of the coder: each edit calls it as often as it needs. Or the first refusal, with its line:
-- the edit doesn't fit, or too few calls are left for it. (COMMAND: Edits; over lists of samples,
-- where the code has streams, and one count of calls)
abbrev pub edits_left : Format → ℕ → ℕ → List ℤ → List Edit → List ℕ → Result Left EditFault
edits_left f limit calls s (e ∷ edits) (n ∷ lines) =
    option_map_or (λ fault. Err (Line n fault)) (due_refusal f limit s calls e)
    (edits_left f limit (calls + needed_calls f.most (length s) e) (samples_after s e) edits lines)
edits_left f limit calls s edits lines = Ok (left_with s calls)

-- how often the coder is called for the samples that a script is carried out on: as often as for
-- appending them to no samples
abbrev pub first_calls : Format → List ℤ → ℕ
first_calls f samples = needed_calls f.most 0 (Append samples)

-- what a script leaves of samples
abbrev pub script_left : Settings → Caps → Input → List ℤ → Result Left EditFault
script_left s caps script samples =
    let f : Format = interval_format s in
    let read : Listing = listing_of script.bytes in
    edits_left f caps.samples (first_calls f samples) samples read.edits read.lines

-- what carrying out a script results in: the bytes of a stream, and how many calls of the coder the
-- samples and the edits need, applied one after the other
pub record Recoded : Type 0 where
  pub bytes : List ℕ
  pub calls : ℕ

-- the result of carrying out a script, or its refusal (COMMAND: Edits)
pub data IsEdited (s : Settings) (caps : Caps) (count : Option ℕ) (script input : Input) : Result Recoded EditFault
    → Type 0 where
  -- the script is refused before the input is looked at
  no_script : (fault : Fault) → script_refusal caps.bytes script ≡ Some fault
      → IsEdited s caps count script input (Err (Plain fault))
  -- the refusals of decoding: the whole input has to be valid
  not_decoded : (fault : Fault) → script_refusal caps.bytes script ≡ None → IsDecoded s caps count input (Err fault)
      → IsEdited s caps count script input (Err (Plain fault))
  -- an edit that doesn't fit the samples that the edits before it leave, or for which too few calls
  -- are left
  not_edited : (samples : List ℤ) (fault : EditFault) → script_refusal caps.bytes script ≡ None
      → IsRead s caps count input samples
      → script_left s caps script samples ≡ Err fault → IsEdited s caps count script input (Err fault)
  -- the bytes of the code of the samples that all edits leave, and the calls that the samples and
  -- all edits need
  edited : (samples : List ℤ) (left : Left) → script_refusal caps.bytes script ≡ None
      → IsRead s caps count input samples
      → script_left s caps script samples ≡ Ok left
      → IsEdited s caps count script input
      (Ok (record { bytes = bytes_of (stream_of s left.samples); calls = left.calls }))

-- ---- runs

-- The edit on this line codes some interval, and neither it nor one before it is refused for a
-- reason other than memory: beginning with the samples s, after `calls` calls of the coder.
abbrev pub LacksMemoryOn : Format → ℕ → ℕ → List ℤ → List Edit → List ℕ → ℕ → Type 0
LacksMemoryOn f limit calls s (e ∷ edits) (n ∷ lines) line =
    let needed : ℕ = needed_calls f.most (length s) e in
    (due_refusal f limit s calls e ≡ None)
    × (((line ≡ n) × (0 < needed)) ⊎ LacksMemoryOn f limit (calls + needed) (samples_after s e) edits lines line)
LacksMemoryOn f limit calls s edits lines line = ⊥

-- both sources returned what they had, and the script has no refusal
pub record GaveBoth (caps : Caps) (from source : Taking) (script input : Input) : Type 0 where
  pub gave_script : Gave from (are_past caps.bytes) script
  pub sound : script_refusal caps.bytes script ≡ None
  pub gave_input : Gave source (are_past caps.bytes) input

-- The result of a run over the source of a script and that of an input, before anything is written:
-- the refusal of the script, with nothing taken of the input; the result for both; or `Memory`,
-- with or without the line of an edit.
pub data GivesEdited (s : Settings) (caps : Caps) (count : Option ℕ) (from source : Taking) : Result Recoded EditFault
    → Type 0 where
  script_refused : (script : Input) (fault : Fault) → Gave from (are_past caps.bytes) script
      → script_refusal caps.bytes script ≡ Some fault
      → Keeps source.before source.after → GivesEdited s caps count from source (Err (Plain fault))
  answered : (script input : Input) (answer : Result Recoded EditFault) → GaveBoth caps from source script input
      → IsEdited s caps count script input answer → GivesEdited s caps count from source answer
  lacks_memory : GivesEdited s caps count from source (Err (Plain Memory))
  lacks_memory_on : (script input : Input) (samples : List ℤ) (line : ℕ) → GaveBoth caps from source script input
      → IsRead s caps count input samples
      → (let f : Format = interval_format s in let read : Listing = listing_of script.bytes in
      LacksMemoryOn f caps.samples (first_calls f samples) samples read.edits read.lines line)
      → GivesEdited s caps count from source (Err (Line line Memory))

-- What the engine leaves: the bytes of its result, written after one `begin`, and it returns the
-- calls; or its refusal and nothing written; or a prefix of the bytes if the sink failed.
pub data LeavesRecoded (s : Settings) (caps : Caps) (count : Option ℕ) (from source : Taking)
    (sink : Putting) : Result ℕ EditFault → Type 0 where
  written : (made : Recoded) → GivesEdited s caps count from source (Ok made)
      → Appends sink.before sink.after made.bytes
      → IsBegunFirst sink → sink.failures ≡ 0 → LeavesRecoded s caps count from source sink (Ok made.calls)
  refused : (fault : EditFault) → GivesEdited s caps count from source (Err fault) → WroteNothing sink
      → LeavesRecoded s caps count from source sink (Err fault)
  not_written : (made : Recoded) → GivesEdited s caps count from source (Ok made)
      → AppendsFront sink.before sink.after made.bytes
      → IsBegunFirst sink → sink.failures ≡ 1 → LeavesRecoded s caps count from source sink (Err (Plain Write))

-- the same of a call that doesn't return the number of calls: there is such a number
pub record LeavesEdited (s : Settings) (caps : Caps) (count : Option ℕ) (from source : Taking) (sink : Putting)
    (result : Result (Unit {0}) EditFault) : Type 0 where
  pub counted : Result ℕ EditFault
  pub leaves : LeavesRecoded s caps count from source sink counted
  pub uncounted : result ≡ answer_by (λ calls. tt) counted
