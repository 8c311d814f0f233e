-- What the private functions of the engine that carries out scripts return.
use Rattle.std.specs.Prelude.{◌≡◌, ◌⊎◌, ℕ, Some, None, Result, Ok, Err, ℤ, List, slice_index}
use Rattle.aec_params.specs.declared.fault.Fault.{Fault}
use Rattle.aec_params.specs.declared.fault.Fault.TheVariants.{Memory}
use Rattle.aec_params.specs.declared.edit.Edit.{Edit}
use Rattle.aec_params.specs.Codewords.{bytes_of}
use Rattle.aec_bits.specs.Codec.{Format, code_of}
use Rattle.aec_edit.specs.declared.outcome.Stop.{Stop}
use Rattle.aec_edit.specs.Stops.{StopsAtRefusal}
use Rattle.aec_engine.specs.declared.scripts.EditFault.{EditFault}
use Rattle.aec_engine.specs.declared.scripts.EditFault.TheVariants.{Plain, Line}
use Rattle.aec_engine.specs.Scripts.{Listing, listing_of}
use Rattle.aec_engine.specs.Transfers.{Input, Taking, are_past, Gave}
use Rattle.aec_engine.specs.Editing.{script_refusal, edits_left, LacksMemoryOn, Recoded}

-- a source returned a script with this listing
pub record GaveScript (from : Taking) (limit : ℕ) (read : Listing) : Type 0 where
  pub script : Input
  pub gave : Gave from (are_past limit) script
  pub sound : script_refusal limit script ≡ None
  pub read_is : read ≡ listing_of script.bytes

-- why no script was read
pub data RefusesScript (from : Taking) (limit : ℕ) : Fault → Type 0 where
  no_memory : RefusesScript from limit Memory
  no_edits : (script : Input) (fault : Fault) → Gave from (are_past limit) script
      → script_refusal limit script ≡ Some fault → RefusesScript from limit fault

-- why edits were not all applied: one is refused for a reason other than memory, or memory was
-- lacking
pub data StopsEditing (f : Format) (limit calls : ℕ) (s : List ℤ) (edits : List Edit) (lines : List ℕ) : EditFault
    → Type 0 where
  misfit : (fault : EditFault) → edits_left f limit calls s edits lines ≡ Err fault
      → StopsEditing f limit calls s edits lines fault
  lacks_memory : (line : ℕ) → LacksMemoryOn f limit calls s edits lines line
      → StopsEditing f limit calls s edits lines (Line line Memory)

-- why edits were not applied as one: memory was lacking, or one is refused for another reason
abbrev pub StopsAsOne : Format → ℕ → ℕ → List ℤ → List Edit → List ℕ → EditFault → Type 0
StopsAsOne f limit calls s edits lines fault =
    (fault ≡ Plain Memory) ⊎ (edits_left f limit calls s edits lines ≡ Err fault)

-- the result of edits that were applied up to the first refused one, each with a line: no refusal,
-- or the refusal with its line
abbrev pub named_by : List ℕ → Result (Unit {0}) Stop → Result (Unit {0}) EditFault
named_by lines (Ok made) = Ok made
named_by lines (Err stop) = Err (Line (slice_index lines stop.place) stop.fault)

-- the result of carrying out edits on a workspace: those before the first refused one were applied,
-- and the fault names its line
pub record CarriesOut (f : Format) (limit : ℕ) (s : List ℤ) (calls reads : ℕ) (edits : List Edit) (lines : List ℕ)
    (result : Result (Unit {0}) EditFault) (left : List ℤ) (calls_after reads_after : ℕ) : Type 0 where
  pub end : Result (Unit {0}) Stop
  pub run : StopsAtRefusal f limit s calls reads edits end left calls_after reads_after
  pub named : result ≡ named_by lines end

-- the result for a workspace with these samples, which need this many calls of the codec
abbrev pub recoded_of : Format → List ℤ → ℕ → Recoded
recoded_of f samples calls = record { bytes = bytes_of (code_of f samples); calls = calls }
