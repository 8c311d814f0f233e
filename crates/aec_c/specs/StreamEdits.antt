-- The results and replies of editing a coded stream by a script.
use Rattle.std.specs.Prelude.{◌≡◌, ℕ, false, Option, Some, None, Result, Ok, Err, ℤ, List, length}
use Rattle.aec_params.specs.declared.settings.Settings.{Settings}
use Rattle.aec_params.specs.declared.fault.Fault.{Fault}
use Rattle.aec_params.specs.declared.fault.Fault.TheVariants.{Memory}
use Rattle.aec_params.specs.Params.{IsAllowed, settings_fault}
use Rattle.aec_params.specs.Codewords.{bytes_of}
use Rattle.aec_bits.specs.Codec.{Format, AreHeld, code_of}
use Rattle.aec_interval.specs.IntervalFormat.{interval_format}
use Rattle.aec_engine.specs.declared.scripts.EditFault.{EditFault}
use Rattle.aec_engine.specs.declared.scripts.EditFault.TheVariants.{Plain, Line}
use Rattle.aec_engine.specs.Transfers.{input_of}
use Rattle.aec_engine.specs.Output.{IsRead}
use Rattle.aec_engine.specs.Buffers.{left_of}
use Rattle.aec_engine.specs.Scripts.{Listing, listing_of}
use Rattle.aec_engine.specs.Editing.{script_refusal, first_calls, Recoded, IsEdited, LacksMemoryOn}
use Rattle.aec_c.specs.declared.stream_edits.EditReply.{EditReply}
use Rattle.aec_c.specs.Calls.{most}
use Rattle.aec_c.specs.Replies.{reply_to}

-- The bytes of the code of the samples that a script leaves of those that coded bytes decode to, or
-- why there are none.
pub data IsEditing (s : Settings) (count : Option ℕ) (script coded : List ℕ) : Result (List ℕ) EditFault → Type 0 where
  edited : (made : Recoded) → IsAllowed s
      → IsEdited s most count (input_of script false) (input_of coded false) (Ok made)
      → IsEditing s count script coded (Ok made.bytes)
  not_edited : (fault : EditFault) → IsAllowed s
      → IsEdited s most count (input_of script false) (input_of coded false) (Err fault)
      → IsEditing s count script coded (Err fault)
  -- the settings are judged first
  not_allowed : (fault : Fault) → settings_fault s ≡ Some fault → IsEditing s count script coded (Err (Plain fault))
  lacks_memory : IsAllowed s → IsEditing s count script coded (Err (Plain Memory))
  -- on a line whose edit codes some interval, if no edit up to it is refused otherwise
  lacks_memory_on : (samples : List ℤ) (line : ℕ) → IsAllowed s
      → script_refusal most.bytes (input_of script false) ≡ None
      → IsRead s most count (input_of coded false) samples
      → (let f : Format = interval_format s in let read : Listing = listing_of script in
      LacksMemoryOn f most.samples (first_calls f samples) samples read.edits read.lines line)
      → IsEditing s count script coded (Err (Line line Memory))

-- bytes are the code of `count` samples
pub record CodesSoMany (s : Settings) (bytes : List ℕ) (count : ℕ) : Type 0 where
  pub samples : List ℤ
  pub held : AreHeld (interval_format s) samples
  pub code : bytes ≡ bytes_of (code_of (interval_format s) samples)
  pub counted : count ≡ length samples

-- a refusal without the line that it names
abbrev pub fault_in : EditFault → Fault
fault_in (Plain fault) = fault
fault_in (Line line fault) = fault

-- the line that a refusal names, or 0
abbrev pub line_in : EditFault → ℕ
line_in (Plain fault) = 0
line_in (Line line fault) = line

-- a result whose refusal no longer names its line
abbrev pub plain_answer : Result (List ℕ) EditFault → Result (List ℕ) Fault
plain_answer (Ok bytes) = Ok bytes
plain_answer (Err fault) = Err (fault_in fault)

-- the line that a result names, or 0
abbrev pub line_of : Result (List ℕ) EditFault → ℕ
line_of (Ok bytes) = 0
line_of (Err fault) = line_in fault

-- the number of samples in the reply to a result: its bytes are the code of `count` samples; after
-- a refusal 0
abbrev pub IsCounted : Settings → Result (List ℕ) EditFault → ℕ → Type 0
IsCounted s (Ok bytes) count = CodesSoMany s bytes count
IsCounted s (Err fault) count = count ≡ 0

-- a call had one of these results
pub record RepliesEdit (s : Settings) (answers : Result (List ℕ) EditFault → Type 0) (before after : List ℕ)
    (reply : EditReply) : Type 0 where
  pub answer : Result (List ℕ) EditFault
  pub answered : answers answer
  pub left : after ≡ left_of (plain_answer answer) before
  pub replied : reply.reply ≡ reply_to (plain_answer answer) (length before)
  pub line : reply.line ≡ line_of answer
  pub counted : IsCounted s answer reply.samples
