-- Answers of the engine that carries out scripts, from the results of its parts.
use Rattle.std.proofs.Common.{◌≡◌, ℕ, Option, Result, Ok, Err, ℤ, Bool, List, refl, sym, ap, ◌∙◌, subst}
use Rattle.std.specs.Io.KnownBytes.{Keeps}
use Rattle.aec_params.specs.declared.settings.Settings.{Settings}
use Rattle.aec_params.specs.declared.fault.Fault.{Fault}
use Rattle.aec_params.specs.declared.fault.Fault.TheVariants.{Memory}
use Rattle.aec_params.specs.declared.edit.Edit.{Edit}
use Rattle.aec_params.specs.Limits.{Caps}
use Rattle.aec_params.specs.Codewords.{bits_of_bytes}
use Rattle.aec_bits.specs.Codec.{Format}
use Rattle.aec_interval.specs.IntervalFormat.{interval_format}
use Rattle.aec_engine.specs.declared.scripts.EditFault.{EditFault}
use Rattle.aec_engine.specs.declared.scripts.EditFault.TheVariants.{Plain}
use Rattle.aec_engine.specs.Transfers as transfers
use Rattle.aec_engine.specs.Transfers.{Input, Taking, are_past, IsTakenWhole, RefusesIntake, Putting, answer_by, GivesAnswer, given}
use Rattle.aec_engine.specs.Output.{IsDecoded, GaveSamples}
use Rattle.aec_engine.specs.Scripts.{Listing, listing_of}
use Rattle.aec_engine.specs.Editing.{Left, edits_left, first_calls, Recoded, not_decoded, not_edited, edited, GaveBoth, GivesEdited, script_refused, answered, lacks_memory, lacks_memory_on, LeavesRecoded, written, refused, not_written}
use Rattle.aec_engine.specs.EditingSteps as steps
use Rattle.aec_engine.specs.EditingSteps.{GaveScript, RefusesScript, no_memory, no_edits, StopsEditing, misfit, recoded_of}
use Rattle.aec_engine.specs.ReadingTwice.{GaveWhole}
use Rattle.aec_engine.specs.Delivering.{Delivers}
use Rattle.aec_engine.specs.EarlyEdits as early
use Rattle.aec_engine.specs.EarlyEdits.{EditsBits, not_read, lacks_room}
use Rattle.aec_engine.proofs.OutputLemmas.{taking, Keeps-same, refused_intake, refused_decoding, read_samples}

-- ---- no script, no samples

no_script_answer : (s : Settings) (caps : Caps) (count : Option ℕ) (from source : Taking) (fault : Fault) → Keeps source.before source.after
    → RefusesScript from caps.bytes fault → GivesEdited s caps count from source (Err (Plain fault))
no_script_answer s caps count from source fault kept no_memory = lacks_memory
no_script_answer s caps count from source fault kept (no_edits script f gave is) = script_refused script f gave is kept

pub gives_no_script : (s : Settings) (caps : Caps) (count : Option ℕ) (from : Taking) (left : Option (List ℕ)) (failed : ℕ) (f : Fault)
    → RefusesScript from caps.bytes f → GivesEdited s caps count from (taking left left failed) (Err (Plain f))
gives_no_script s caps count from left failed f refuses = no_script_answer s caps count from (taking left left failed) f (Keeps-same left) refuses

no_source_answer : (s : Settings) (caps : Caps) (count : Option ℕ) (from source : Taking) (read : Listing) (answer : Result
    (List ℕ) Fault) (fault : Fault)
    → answer ≡ Err fault → GaveScript from caps.bytes read → GivesAnswer (IsDecoded s caps count) source (are_past caps.bytes) answer
    → GivesEdited s caps count from source (Err (Plain fault))
no_source_answer s caps count from source read answer fault is script (given input a gave is_answer) =
    answered script.script input (Err (Plain fault)) (record { gave_script = script.gave; sound = script.sound; gave_input = gave })
    (not_decoded fault script.sound (subst (IsDecoded s caps count input) is is_answer))
no_source_answer s caps count from source read answer fault is script transfers.lacks_memory =
    let memory : Memory ≡ fault = cc in subst (λ fault. GivesEdited s caps count from source (Err (Plain fault))) memory lacks_memory

-- ---- the edits

stopped_answer : (s : Settings) (caps : Caps) (count : Option ℕ) (from source : Taking) (read : Listing) (samples : List ℤ)
    (fault : EditFault) → GaveScript from caps.bytes read → GaveSamples s caps count source samples
    → StopsEditing (interval_format s) caps.samples (first_calls (interval_format s) samples) samples read.edits read.lines fault
    → GivesEdited s caps count from source (Err fault)
stopped_answer s caps count from source read samples fault script gave stops =
    by_why fault (subst (λ (read : Listing). Stops read.edits read.lines fault) script.read_is stops)
  where
    Stops : List Edit → List ℕ → EditFault → Type 0
    Stops es ns why = StopsEditing (interval_format s) caps.samples (first_calls (interval_format s) samples) samples es ns why

    both : GaveBoth caps from source script.script gave.input
    both = record { gave_script = script.gave; sound = script.sound; gave_input = gave.gave }

    by_why : (why : EditFault) → Stops (listing_of script.script.bytes).edits (listing_of script.script.bytes).lines why
        → GivesEdited s caps count from source (Err why)
    by_why why (misfit f is) = answered script.script gave.input (Err f) both (not_edited samples f script.sound gave.read is)
    by_why why (steps.lacks_memory line lacks) = lacks_memory_on script.script gave.input samples line both gave.read lacks

edited_answer : (s : Settings) (caps : Caps) (count : Option ℕ) (from source : Taking) (read : Listing) (samples : List ℤ)
    (left : Left) → GaveScript from caps.bytes read → GaveSamples s caps count source samples
    → edits_left (interval_format s) caps.samples (first_calls (interval_format s) samples) samples read.edits read.lines ≡ Ok left
    → GivesEdited s caps count from source (Ok (recoded_of (interval_format s) left.samples left.calls))
edited_answer s caps count from source read samples left script gave is =
    answered script.script gave.input (Ok (recoded_of (interval_format s) left.samples left.calls))
    (record { gave_script = script.gave; sound = script.sound; gave_input = gave.gave })
    (edited samples left script.sound gave.read
    (subst (λ (read : Listing). edits_left f caps.samples first samples read.edits read.lines ≡ Ok left) script.read_is is))
  where
    f : Format
    f = interval_format s

    first : ℕ
    first = first_calls f samples

-- ---- bits

gives_taken : (s : Settings) (caps : Caps) (count : Option ℕ) (from : Taking) (before after : Option (List ℕ)) (failures : ℕ) (bytes : List ℕ)
    (read : Listing) (answer : Result Recoded EditFault) → GaveScript from caps.bytes read
    → IsTakenWhole before after failures caps.bytes bytes → EditsBits s caps count (bits_of_bytes bytes) read answer
    → GivesEdited s caps count from (taking before after failures) answer
gives_taken s caps count from before after failures bytes read answer script taken (not_read fault refuses) =
    no_source_answer s caps count from (taking before after failures) read (Err fault) fault refl script
    (refused_decoding s caps count before after failures bytes fault taken refuses)
gives_taken s caps count from before after failures bytes read answer script taken lacks_room = lacks_memory
gives_taken s caps count from before after failures bytes read answer script taken (early.stopped samples fault none reading stops) =
    stopped_answer s caps count from (taking before after failures) read samples fault script
    (read_samples s caps count before after failures bytes samples taken none reading) stops
gives_taken s caps count from before after failures bytes read answer script taken (early.made samples left none reading is) =
    edited_answer s caps count from (taking before after failures) read samples left script
    (read_samples s caps count before after failures bytes samples taken none reading) is

pub gives_bits : (s : Settings) (caps : Caps) (count : Option ℕ) (from : Taking) (before after : Option (List ℕ)) (failures limit : ℕ) (bits : List Bool)
    (text read : List ℕ) (answer : Result Recoded EditFault) → limit ≡ caps.bytes → read ≡ text → GaveScript from caps.bytes (listing_of text)
    → GaveWhole before after failures limit bits → EditsBits s caps count bits (listing_of read) answer
    → GivesEdited s caps count from (taking before after failures) answer
gives_bits s caps count from before after failures limit bits text read answer limited same script gave answers =
    gives_taken s caps count from before after failures gave.bytes (listing_of text) answer script
    (subst (λ limit. IsTakenWhole before after failures limit gave.bytes) limited gave.taken)
    (subst (λ bits. EditsBits s caps count bits (listing_of text) answer) gave.spelled
    (subst (λ text. EditsBits s caps count bits (listing_of text) answer) same answers))

pub gives_no_bits : (s : Settings) (caps : Caps) (count : Option ℕ) (from : Taking) (before after : Option (List ℕ)) (failures limit : ℕ)
    (read : Listing) (f : Fault) → limit ≡ caps.bytes → GaveScript from caps.bytes read → RefusesIntake before after failures limit f
    → GivesEdited s caps count from (taking before after failures) (Err (Plain f))
gives_no_bits s caps count from before after failures limit read f limited script refuses =
    no_source_answer s caps count from (taking before after failures) read (Err f) f refl script
    (refused_intake s caps count before after failures f (subst (λ limit. RefusesIntake before after failures limit f) limited refuses))

-- ---- what the sink contains afterwards

pub leaves_unedited : {X : Type 0} (view : X → ℕ) (r : Result X EditFault) (e fault : EditFault) (s : Settings) (caps : Caps) (count : Option ℕ)
    (from source : Taking) (before mark : Option (List ℕ)) (begun failures : ℕ) → r ≡ Err e → e ≡ fault
    → GivesEdited s caps count from source (Err fault)
    → LeavesRecoded s caps count from source
    (record { before = before; after = before; begun_before = begun; begun_after = begun; mark = mark; failures = failures }) (answer_by view r)
leaves_unedited view r e fault s caps count from source before mark begun failures is same gives =
    let sink : Putting = record { before = before; after = before; begun_before = begun; begun_after = begun; mark = mark; failures = failures } in
    subst (λ r. LeavesRecoded s caps count from source sink (answer_by view r)) (sym (is ∙ ap Err same))
    (refused fault gives (record { kept = Keeps-same before; begun = refl }))

pub leaves_undelivered : {X : Type 0} (view : X → ℕ) (r : Result X EditFault) (e : EditFault) (f : Fault) (s : Settings) (caps : Caps)
    (count : Option ℕ) (from source : Taking) (sink : Putting) (made : Recoded) → r ≡ Err e → e ≡ Plain f
    → GivesEdited s caps count from source (Ok made) → Delivers made.bytes sink (Err f)
    → LeavesRecoded s caps count from source sink (answer_by view r)
leaves_undelivered view r e f s caps count from source sink made is same gives delivers =
    subst (λ r. LeavesRecoded s caps count from source sink (answer_by view r)) (sym (is ∙ ap Err (same ∙ ap Plain delivers.fault.0)))
    (not_written made gives delivers.puts delivers.begun delivers.fault.1)

pub leaves_edited : (s : Settings) (caps : Caps) (count : Option ℕ) (from source : Taking) (sink : Putting) (made : Recoded)
    → GivesEdited s caps count from source (Ok made) → Delivers made.bytes sink (Ok tt)
    → LeavesRecoded s caps count from source sink (Ok made.calls)
leaves_edited s caps count from source sink made gives delivers = written made gives delivers.puts delivers.begun delivers.sound
