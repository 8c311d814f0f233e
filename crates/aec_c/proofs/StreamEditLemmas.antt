-- The answer of editing a stream in memory, from the contract of the engine's call.
use Rattle.std.proofs.Common.{◌≡◌, ℕ, Bool, true, false, if◌then◌else◌, nat_lt, Option, Some, None, Result, Ok, Err, List, [], ◌++◌, length, ◌⊎◌, inl, inr, refl, sym, ap, ◌∙◌, subst}
use Rattle.std.specs.Prelude.{ℤ, IfOk, IfErr, option_map}
use Rattle.std.specs.Option.{option_or}
use Rattle.std.specs.Io.KnownBytes.{Consumes, IsAtEnd, Appends}
use Rattle.std.proofs.lemmas.List.{append-nil}
use Rattle.aec_params.specs.declared.settings.Settings.{Settings}
use Rattle.aec_params.specs.declared.fault.Fault.{Fault}
use Rattle.aec_params.specs.declared.fault.Fault.TheVariants.{Script, Memory, Write, StreamTooLong, Read}
use Rattle.aec_params.specs.Params.{IsAllowed}
use Rattle.aec_params.specs.Codewords.{bytes_of}
use Rattle.aec_bits.specs.Codec.{Format, AreHeld, code_of}
use Rattle.aec_interval.specs.IntervalFormat.{interval_format}
use Rattle.aec_engine.specs.declared.scripts.EditFault.{EditFault}
use Rattle.aec_engine.specs.declared.scripts.EditFault.TheVariants.{Plain, Line}
use Rattle.aec_engine.specs.Transfers.{Input, input_of, are_past, Taking, Putting, Gave, answer_by}
use Rattle.aec_engine.specs.Output.{intake_refusal, IsRead}
use Rattle.aec_engine.specs.Buffers.{left_of}
use Rattle.aec_engine.specs.Scripts.{Listing, listing_of}
use Rattle.aec_engine.specs.Editing.{script_refusal, first_calls, Recoded, IsEdited, no_script, LacksMemoryOn, GaveBoth, GivesEdited, script_refused, answered, LeavesRecoded, LeavesEdited, written, refused, not_written}
use Rattle.aec_engine.specs.Editing as editing
use Rattle.aec_engine.proofs.EditFrontLemmas.{editing-whole, scripts-whole}
use Rattle.aec_c.specs.declared.stream_edits.EditReply.{EditReply}
use Rattle.aec_c.specs.Calls.{most}
use Rattle.aec_c.specs.Replies.{reply_to}
use Rattle.aec_c.specs.StreamEdits.{IsEditing, edited, not_edited, lacks_memory, lacks_memory_on, CodesSoMany, plain_answer, line_of, RepliesEdit}

-- ---- the bytes that a source in memory gave

intake-sound : (limit : ℕ) (script : Input) → script_refusal limit script ≡ None → intake_refusal limit script ≡ None
intake-sound limit script sound = by_intake (intake_refusal limit script) refl sound
  where
    by_intake : (t : Option Fault) → intake_refusal limit script ≡ t
        → option_or t (option_map (λ n. Script n) (listing_of script.bytes).bad) ≡ None → intake_refusal limit script ≡ None
    by_intake None e why = e
    by_intake (Some fault) e why = absurd (cc)

-- a source in memory gave all its bytes, if they are within the limit
gave_all : (source : Taking) (limit : ℕ) (input : Input) (bytes : List ℕ) → source.before ≡ Some bytes
    → Gave source (are_past limit) input → intake_refusal limit input ≡ None → input_of bytes false ≡ input
gave_all source limit input bytes before gave sound =
    by_length (nat_lt limit (length input.bytes)) refl sound
  where
    by_after : (after : Option (List ℕ)) → Consumes (Some bytes) after input.bytes → IsAtEnd after → bytes ≡ input.bytes
    by_after None taken ends = absurd taken
    by_after (Some rest) taken ends = taken ∙ (ap (λ rest. input.bytes ++ rest) ends ∙ append-nil input.bytes)

    by_failure : (t : Bool) → input.failed ≡ t → (if t then Some Read else None) ≡ None
        → are_past limit input.bytes ≡ false → input_of bytes false ≡ input
    by_failure true e why few = absurd (cc)
    by_failure false e why few =
        let same : bytes ≡ input.bytes =
        by_after source.after (subst (λ given. Consumes given source.after input.bytes) before gave.taken) (gave.whole few e) in
        ap (λ bytes. input_of bytes false) same ∙ ap (λ failed. input_of input.bytes failed) (sym e)

    by_length : (t : Bool) → nat_lt limit (length input.bytes) ≡ t
        → (if t then Some (StreamTooLong limit) else (if input.failed then Some Read else None)) ≡ None → input_of bytes false ≡ input
    by_length true e why = absurd (cc)
    by_length false e why = by_failure input.failed refl why e

-- ---- answers

module _ (s : Settings) (count : Option ℕ) (from source : Taking) (script coded : List ℕ) (allowed : IsAllowed s)
    (script_before : from.before ≡ Some script) (script_sound : from.failures ≡ 0)
    (before : source.before ≡ Some coded) (sound : source.failures ≡ 0) where
  both_whole : (given input : Input) (answer : Result Recoded EditFault) → GaveBoth most from source given input
      → IsEdited s most count given input answer → IsEdited s most count (input_of script false) (input_of coded false) answer
  both_whole given input answer gave is =
      editing-whole s most count (input_of script false) source input coded answer before sound gave.gave_input
      (scripts-whole s most count input from given script answer script_before script_sound gave.gave_script is)

  answer_of : (answer : Result Recoded EditFault) → IsEdited s most count (input_of script false) (input_of coded false) answer
      → IsEditing s count script coded (answer_by (λ (made : Recoded). made.bytes) answer)
  answer_of (Ok made) is = edited made allowed is
  answer_of (Err fault) is = not_edited fault allowed is

  memory_on : (given input : Input) (samples : List ℤ) (line : ℕ) → GaveBoth most from source given input → IsRead s most count input samples
      → (let f : Format = interval_format s in let read : Listing = listing_of given.bytes in
      LacksMemoryOn f most.samples (first_calls f samples) samples read.edits read.lines line)
      → IsEditing s count script coded (Err (Line line Memory))
  memory_on given input samples line gave read lacks =
      let text : input_of script false ≡ given =
      gave_all from most.bytes given script script_before gave.gave_script (intake-sound most.bytes given gave.sound) in
      let whole : input_of coded false ≡ input = gave_all source most.bytes input coded before gave.gave_input read.taken in
      lacks_memory_on samples line allowed (subst (λ given. script_refusal most.bytes given ≡ None) (sym text) gave.sound)
      (subst (λ input. IsRead s most count input samples) (sym whole) read)
      (subst (λ (given : Input). let f : Format = interval_format s in let read : Listing = listing_of given.bytes in
      LacksMemoryOn f most.samples (first_calls f samples) samples read.edits read.lines line) (sym text) lacks)

  given_answer : (answer : Result Recoded EditFault) → GivesEdited s most count from source answer
      → IsEditing s count script coded (answer_by (λ (made : Recoded). made.bytes) answer)
  given_answer answer (script_refused given fault gave is kept) =
      answer_of (Err (Plain fault)) (scripts-whole s most count (input_of coded false) from given script (Err (Plain fault)) script_before script_sound
      gave (no_script fault is))
  given_answer answer (answered given input a gave is) = answer_of a (both_whole given input a gave is)
  given_answer answer editing.lacks_memory = lacks_memory allowed
  given_answer answer (editing.lacks_memory_on given input samples line gave read lacks) = memory_on given input samples line gave read lacks

  -- if a sink held nothing, after success it holds the edited bytes
  edited_ok : (sink : Putting) (held : List ℕ) (calls : ℕ) (r : Result ℕ EditFault) → sink.before ≡ Some [] → sink.after ≡ Some held
      → LeavesRecoded s most count from source sink r → r ≡ Ok calls → IsEditing s count script coded (Ok held)
  edited_ok sink held calls r empty holds (written made gives appends begun sounds) is =
      let grown : Appends (Some []) (Some held) made.bytes = rw (empty, holds) at appends in rw grown (given_answer (Ok made) gives)
  edited_ok sink held calls r empty holds (refused fault gives nothing) is = absurd (cc)
  edited_ok sink held calls r empty holds (not_written made gives front begun fails) is = absurd (cc)

  edited_err : (sink : Putting) (r : Result ℕ EditFault) (fault e : EditFault) → (fault ≡ Plain Write → e ≡ Plain Memory)
      → (e ≡ fault) ⊎ (fault ≡ Plain Write)
      → LeavesRecoded s most count from source sink r → r ≡ Err fault → IsEditing s count script coded (Err e)
  edited_err sink r fault e memory other leaves is = by_leaves r leaves is other
    where
      lacks : e ≡ Plain Memory → IsEditing s count script coded (Err e)
      lacks same = rw same (lacks_memory allowed)

      by_leaves : (r : Result ℕ EditFault) → LeavesRecoded s most count from source sink r → r ≡ Err fault → (e ≡ fault) ⊎ (fault ≡ Plain Write)
          → IsEditing s count script coded (Err e)
      by_leaves r (written made gives appends begun sounds) is other = absurd (cc)
      by_leaves r (refused f gives nothing) is (inl same) =
          let was : e ≡ f = cc in rw was (given_answer (Err f) gives)
      by_leaves r (refused f gives nothing) is (inr fails) = lacks (memory fails)
      by_leaves r (not_written made gives front begun fails) is other = let was : fault ≡ Plain Write = cc in lacks (memory was)

  -- the same of a call that doesn't return the number of calls
  pub edited_uncounted : (sink : Putting) (held : List ℕ) (r : Result (Unit {0}) EditFault) → sink.before ≡ Some [] → sink.after ≡ Some held
      → LeavesEdited s most count from source sink r → r ≡ Ok tt → IsEditing s count script coded (Ok held)
  edited_uncounted sink held r empty holds leaves is = by_counted leaves.counted leaves.leaves (sym is ∙ leaves.uncounted)
    where
      by_counted : (counted : Result ℕ EditFault) → LeavesRecoded s most count from source sink counted → Ok (tt {0}) ≡ answer_by (λ calls. tt {0}) counted
          → IsEditing s count script coded (Ok held)
      by_counted (Ok calls) leaves same = edited_ok sink held calls (Ok calls) empty holds leaves refl
      by_counted (Err fault) leaves same = absurd (cc)

  pub refused_uncounted : (sink : Putting) (r : Result (Unit {0}) EditFault) (fault e : EditFault) → (fault ≡ Plain Write → e ≡ Plain Memory)
      → (e ≡ fault) ⊎ (fault ≡ Plain Write)
      → LeavesEdited s most count from source sink r → r ≡ Err fault → IsEditing s count script coded (Err e)
  refused_uncounted sink r fault e memory other leaves is = by_counted leaves.counted leaves.leaves (sym is ∙ leaves.uncounted)
    where
      by_counted : (counted : Result ℕ EditFault) → LeavesRecoded s most count from source sink counted → Err fault ≡ answer_by (λ calls. tt {0}) counted
          → IsEditing s count script coded (Err e)
      by_counted (Ok calls) leaves same = absurd (cc)
      by_counted (Err why) leaves same = let named : why ≡ fault = cc in edited_err sink (Err why) fault e memory other leaves (ap Err named)

-- what was written into an empty sink is the code of `many` samples
pub codes_many : (s : Settings) (f : Format) (samples : List ℤ) (before after : Option (List ℕ)) (held : List ℕ) (many : ℕ) → f ≡ interval_format s
    → many ≡ length samples → AreHeld f samples → before ≡ Some [] → after ≡ Some held → Appends before after (bytes_of (code_of f samples))
    → CodesSoMany s held many
codes_many s f samples before after held many same counted all empty holds appends =
    let grown : Appends (Some []) (Some held) (bytes_of (code_of f samples)) = rw (empty, holds) at appends in
    record { samples = samples; held = rw same at all; code = grown ∙ ap (λ f. bytes_of (code_of f samples)) same; counted = counted }

-- ---- the reply

pub replies_edit : {X : Type 0} (s : Settings) (answers : Result (List ℕ) EditFault → Type 0) (view : X → List ℕ) (many : X → ℕ) (r : Result X EditFault)
    (before after : List ℕ) (reply : EditReply)
    → IfOk r (λ x. answers (Ok (view x))) → IfOk r (λ x. CodesSoMany s (view x) (many x)) → IfErr r (λ e. answers (Err e))
    → after ≡ left_of (plain_answer (answer_by view r)) before → reply.reply ≡ reply_to (plain_answer (answer_by view r)) (length before)
    → reply.line ≡ line_of (answer_by view r) → IfOk r (λ x. reply.samples ≡ many x) → IfErr r (λ _. reply.samples ≡ 0)
    → RepliesEdit s answers before after reply
replies_edit s answers view many (Ok x) before after reply ok coded refuses left replied line counted none = record {
  answer = Ok (view x);
  answered = ok;
  left = left;
  replied = replied;
  line = line;
  counted = subst (CodesSoMany s (view x)) (sym counted) coded;
}
replies_edit s answers view many (Err e) before after reply ok coded refuses left replied line counted none = record {
  answer = Err e;
  answered = refuses;
  left = left;
  replied = replied;
  line = line;
  counted = none;
}
