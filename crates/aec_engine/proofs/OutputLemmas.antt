-- Answers of the engines, from the results of their parts.
use Rattle.std.proofs.Common.{◌≡◌, ◌⊎◌, inl, inr, ⊎_elim, ℕ, ◌≤◌, Bool, true, false, if◌then◌else◌, Option, Some, None, Result, Ok, Err, IfErr, ℤ, List, length, refl, sym, ap, subst, arith}
use Rattle.std.proofs.lemmas.Bool.{lt-ltb, le-ltb, ltb-false}
use Rattle.std.specs.Io.KnownBytes.{Keeps, Appends}
use Rattle.std.proofs.Common.{OnOk, OnErr}
use Rattle.aec_bits.specs.Devices.{AppendsFront}
use Rattle.aec_params.specs.declared.settings.Settings.{Settings}
use Rattle.aec_params.specs.declared.fault.Fault.{Fault}
use Rattle.aec_params.specs.declared.fault.Fault.TheVariants.{Memory, Read, Write, StreamTooLong}
use Rattle.aec_params.specs.Limits.{Caps}
use Rattle.aec_params.specs.Codewords.{bits_of_bytes}
use Rattle.aec_params.specs.Reading.{IsReading}
use Rattle.aec_interval.specs.Reached.{count_refusal, no_memory, faulty, RefusesDecoding, above_limit, unread}
use Rattle.aec_engine.specs.Transfers as transfers
use Rattle.aec_engine.specs.Transfers.{Input, Taking, are_past, Gave, IsTakenWhole, RefusesIntake, source_failed, too_many_bytes, GivesAnswer, given, lacks_memory, Leaves, written, refused, no_answer, not_written}
use Rattle.aec_engine.specs.Transfers.{Putting, WroteNothing, IsBegunFirst, answer_by, Settles, settled, not_begun, stopped}
use Rattle.aec_engine.specs.Output as output
use Rattle.aec_engine.specs.Output.{IsRead, GaveSamples, IsDecoded, intake_refusal, all_stored, not_taken, not_counted, decoded}

-- an input that was taken whole
abbrev sound_input : List ℕ → Input
sound_input bytes = record { bytes = bytes; failed = false }

abbrev failed_input : List ℕ → Input
failed_input bytes = record { bytes = bytes; failed = true }

pub gave_whole : (before after : Option (List ℕ)) (failures limit : ℕ) (bytes : List ℕ) → IsTakenWhole before after failures limit bytes
    → Gave (record { before = before; after = after; failures = failures }) (are_past limit) (sound_input bytes)
gave_whole before after failures limit bytes taken = record {
  taken = taken.taken;
  failed = λ e. absurd (cc);
  sound = λ e. taken.sound;
  whole = λ short e. taken.at_end;
}

pub none_refused : (limit : ℕ) (bytes : List ℕ) → length bytes ≤ limit → intake_refusal limit (sound_input bytes) ≡ None
none_refused limit bytes within = ap (λ b. if b then Some (StreamTooLong limit) else None) (le-ltb limit (length bytes) within)

-- a source was not read whole: there was no memory, or it gave an input that is refused
pub intake_given : (before after : Option (List ℕ)) (failures limit : ℕ) (fault : Fault) → RefusesIntake before after failures limit fault
    → (fault ≡ Memory) ⊎ ((input : Input) × Gave (record { before = before; after = after; failures = failures }) (are_past limit) input
    × (intake_refusal limit input ≡ Some fault))
intake_given before after failures limit fault transfers.no_memory = inl refl
intake_given before after failures limit fault (source_failed bytes fails) =
    inr (
      failed_input bytes,
      record { taken = fails.taken; failed = λ e. fails.failed; sound = λ e. absurd (cc); whole = λ short e. absurd (cc) },
      ap (λ b. if b then Some (StreamTooLong limit) else Some Read) (le-ltb limit (length bytes) fails.within),
    )
intake_given before after failures limit fault (too_many_bytes bytes passes) =
    inr (
      sound_input bytes,
      record {
        taken = passes.taken;
        failed = λ e. absurd (cc);
        sound = λ e. passes.sound;
        whole = λ short e. absurd (omega (arith, passes.past, ltb-false limit (length bytes) short));
      },
      ap (λ b. if b then Some (StreamTooLong limit) else None) (lt-ltb limit (length bytes) passes.past),
    )

pub refused_intake : (s : Settings) (caps : Caps) (count : Option ℕ) (before after : Option (List ℕ)) (failures : ℕ) (fault : Fault)
    → RefusesIntake before after failures caps.bytes fault
    → GivesAnswer (IsDecoded s caps count) (record { before = before; after = after; failures = failures }) (are_past caps.bytes) (Err fault)
refused_intake s caps count before after failures fault refuses =
    let source : Taking = record { before = before; after = after; failures = failures } in
    ⊎_elim (λ memory. subst (λ fault. GivesAnswer (IsDecoded s caps count) source (are_past caps.bytes) (Err fault)) (sym memory) lacks_memory)
    (λ found. given found.0 (Err fault) found.1 (not_taken fault found.2)) (intake_given before after failures caps.bytes fault refuses)

pub refused_decoding : (s : Settings) (caps : Caps) (count : Option ℕ) (before after : Option (List ℕ)) (failures : ℕ) (bytes : List ℕ) (fault : Fault)
    → IsTakenWhole before after failures caps.bytes bytes
    → RefusesDecoding s count caps.samples (bits_of_bytes bytes) fault
    → GivesAnswer (IsDecoded s caps count) (record { before = before; after = after; failures = failures }) (are_past caps.bytes) (Err fault)
refused_decoding s caps count before after failures bytes fault taken (above_limit f above) =
    given (sound_input bytes) (Err f) (gave_whole before after failures caps.bytes bytes taken)
    (not_counted f (none_refused caps.bytes bytes taken.within) above)
refused_decoding s caps count before after failures bytes fault taken (unread f within (no_memory behind)) = lacks_memory
refused_decoding s caps count before after failures bytes fault taken (unread f within (faulty g is)) =
    given (sound_input bytes) (Err g) (gave_whole before after failures caps.bytes bytes taken)
    (output.faulty g (none_refused caps.bytes bytes taken.within) within is)

pub read_samples : (s : Settings) (caps : Caps) (count : Option ℕ) (before after : Option (List ℕ)) (failures : ℕ) (bytes : List ℕ) (samples : List ℤ)
    → IsTakenWhole before after failures caps.bytes bytes → count_refusal caps.samples count ≡ None
    → IsReading s count caps.samples (bits_of_bytes bytes) samples
    → GaveSamples s caps count (record { before = before; after = after; failures = failures }) samples
read_samples s caps count before after failures bytes samples taken within reading = record {
  input = sound_input bytes;
  gave = gave_whole before after failures caps.bytes bytes taken;
  read = record { taken = none_refused caps.bytes bytes taken.within; within = within; reading = reading };
}

-- ---- the same, stated by the code's variables

abbrev pub taking : Option (List ℕ) → Option (List ℕ) → ℕ → Taking
taking before after failures = record { before = before; after = after; failures = failures }

-- ---- what the sink contains afterwards

pub Keeps-same : (bytes : Option (List ℕ)) → Keeps bytes bytes
Keeps-same None = tt
Keeps-same (Some bytes) = refl

-- ---- an answer that is written

answered_ok : (answers : Input → Result (List ℕ) Fault → Type 0) (source : Taking) (enough : List ℕ → Bool) (answer : Result (List ℕ) Fault) (bytes : List ℕ)
    → answer ≡ Ok bytes → GivesAnswer answers source enough answer → (input : Input) × Gave source enough input × answers input (Ok bytes)
answered_ok answers source enough answer bytes is (given input a gave answered) = (input, gave, subst (answers input) is answered)
answered_ok answers source enough answer bytes is lacks_memory = absurd (cc)

leaves_nothing : (answers : Input → Result (List ℕ) Fault → Type 0) (source : Taking) (enough : List ℕ → Bool) (sink : Putting) (answer : Result (List ℕ) Fault)
    (fault : Fault) → answer ≡ Err fault → GivesAnswer answers source enough answer → WroteNothing sink → Leaves answers source enough sink (Err fault)
leaves_nothing answers source enough sink answer fault is (given input a gave answered) nothing =
    refused input fault gave (subst (answers input) is answered) nothing
leaves_nothing answers source enough sink answer fault is lacks_memory nothing =
    let memory : Memory ≡ fault = cc in subst (λ fault. Leaves answers source enough sink (Err fault)) memory (no_answer nothing)

pub leaves_settled : (answers : Input → Result (List ℕ) Fault → Type 0) (source : Taking) (enough : List ℕ → Bool) (sink : Putting)
    (answer : Result (List ℕ) Fault) (r : Result (Unit {0}) Fault) → GivesAnswer answers source enough answer → Settles sink answer r
    → Leaves answers source enough sink r
leaves_settled answers source enough sink answer r gives (settled bytes appends begun sound) =
    let answered = answered_ok answers source enough answer bytes refl gives in
    written answered.0 bytes answered.1 answered.2 appends begun sound
leaves_settled answers source enough sink answer r gives (not_begun fault nothing) =
    leaves_nothing answers source enough sink answer fault refl gives nothing
leaves_settled answers source enough sink answer r gives (stopped bytes front begun failed) =
    let answered = answered_ok answers source enough answer bytes refl gives in
    not_written answered.0 bytes answered.1 answered.2 front begun failed

pub settles_delivered : (r : Result (Unit {0}) Fault) (written_bytes : List ℕ) (sink : Putting) → OnOk r (Appends sink.before sink.after written_bytes)
    → OnErr r (AppendsFront sink.before sink.after written_bytes) → IsBegunFirst sink
    → IfErr r (λ e. (e ≡ Write) × (sink.failures ≡ 1)) → OnOk r (sink.failures ≡ 0) → Settles sink (Ok written_bytes) r
settles_delivered (Ok done) written_bytes sink ok front begun fault sound = settled written_bytes ok begun sound
settles_delivered (Err e) written_bytes sink ok front begun fault sound =
    subst (λ e. Settles sink (Ok written_bytes) (Err e)) (sym fault.0) (stopped written_bytes front begun fault.1)
