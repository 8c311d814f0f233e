-- What the engines leave if source and sink are bytes in memory.
use Rattle.std.proofs.Common.{◌≡◌, ℕ, ◌≤◌, Bool, true, false, nat_lt, if◌then◌else◌, Option, Some, None, Result, Ok, Err, List, [], length, refl, sym, ap, ◌∙◌, ◌⊎◌, inl, inr, subst}
use Rattle.std.specs.Prelude.{IfOk, IfErr}
use Rattle.std.specs.Io.KnownBytes.{Appends}
use Rattle.std.specs.Option.{option_or}
use Rattle.std.proofs.lemmas.Bool.{ltb-false, ltb-true}
use Rattle.aec_params.specs.declared.settings.Settings.{Settings}
use Rattle.aec_params.specs.declared.fault.Fault.{Fault}
use Rattle.aec_params.specs.declared.fault.Fault.TheVariants.{Memory, Write, StreamTooLong, TooManySamples}
use Rattle.aec_params.specs.Limits.{Caps}
use Rattle.aec_interval.specs.Taking.{judged_samples}
use Rattle.aec_engine.specs.Transfers.{Input, input_of, are_past, Taking, Putting, Leaves, written, refused, no_answer, not_written}
use Rattle.aec_engine.specs.Output as output
use Rattle.aec_engine.specs.Output.{IsEncoded, are_refused, coding_refusal, not_coded, encoded, IsDecoded, intake_refusal, not_taken, decoded}
use Rattle.aec_engine.specs.Buffers.{OrMemory}
use Rattle.aec_engine.specs.Laws.{IsJudgedWhole}
use Rattle.aec_engine.specs.InMemory.{IsCodeOf, bytes_refusal, IsStoredReadingOf, RefusesCoded, too_many_bytes, not_counted, faulty}
use Rattle.aec_engine.proofs.FrontLemmas.{decoding-whole}

-- ---- any engine

-- the bytes in a sink that was empty are the answer
pub answered_ok : (answers : Input → Result (List ℕ) Fault → Type 0) (enough : List ℕ → Bool) (source : Taking) (sink : Putting) (bytes held : List ℕ)
    (r : Result (Unit {0}) Fault)
    → IsJudgedWhole answers enough → source.before ≡ Some bytes → source.failures ≡ 0 → sink.before ≡ Some [] → sink.after ≡ Some held
    → Leaves answers source enough sink r → r ≡ Ok tt → answers (input_of bytes false) (Ok held)
answered_ok answers enough source sink bytes held r whole before sound empty holds (written input out gave answered appends counts sounds) is =
    let grown : Appends (Some []) (Some held) out = subst (λ b. Appends b (Some held) out) empty (subst (λ a. Appends sink.before a out) holds appends) in
    subst (λ out. answers (input_of bytes false) (Ok out)) (sym grown) (whole source input bytes (Ok out) before sound gave answered)
answered_ok answers enough source sink bytes held r whole before sound empty holds (refused input fault gave answered nothing) is = absurd (cc)
answered_ok answers enough source sink bytes held r whole before sound empty holds (no_answer nothing) is = absurd (cc)
answered_ok answers enough source sink bytes held r whole before sound empty holds (not_written input out gave answered front counts fails) is = absurd (cc)

pub answered_err : (answers : Input → Result (List ℕ) Fault → Type 0) (enough : List ℕ → Bool) (source : Taking) (sink : Putting) (bytes : List ℕ)
    (r : Result (Unit {0}) Fault) (fault : Fault)
    → IsJudgedWhole answers enough → source.before ≡ Some bytes → source.failures ≡ 0
    → Leaves answers source enough sink r → r ≡ Err fault → (fault ≡ Memory) ⊎ ((fault ≡ Write) ⊎ answers (input_of bytes false) (Err fault))
answered_err answers enough source sink bytes r fault whole before sound (written input out gave answered appends counts sounds) is = absurd (cc)
answered_err answers enough source sink bytes r fault whole before sound (refused input f gave answered nothing) is =
    let same : f ≡ fault = cc in
    inr (inr (subst (λ f. answers (input_of bytes false) (Err f)) same (whole source input bytes (Err f) before sound gave answered)))
answered_err answers enough source sink bytes r fault whole before sound (no_answer nothing) is = let same : fault ≡ Memory = cc in inl same
answered_err answers enough source sink bytes r fault whole before sound (not_written input out gave answered front counts fails) is =
    let same : fault ≡ Write = cc in inr (inl same)

-- a refusal is `Memory` or one of P, if a write that fails is returned as `Memory`
pub as_refusal : (P : Fault → Type 0) (fault f : Fault) → (fault ≡ Write → f ≡ Memory) → (f ≡ fault) ⊎ (fault ≡ Write)
    → (fault ≡ Memory) ⊎ ((fault ≡ Write) ⊎ P fault) → (f ≡ Memory) ⊎ P f
as_refusal P fault f memory (inr fails) why = inl (memory fails)
as_refusal P fault f memory (inl same) (inl lacks) = inl (same ∙ lacks)
as_refusal P fault f memory (inl same) (inr (inl fails)) = inl (memory fails)
as_refusal P fault f memory (inl same) (inr (inr holds)) = inr (subst P (sym same) holds)

-- ---- coding

pub code_of : (s : Settings) (caps : Caps) (bytes coded : List ℕ) (answer : Result (List ℕ) Fault) → answer ≡ Ok coded
    → IsEncoded s caps (input_of bytes false) answer → IsCodeOf s caps.samples bytes coded
code_of s caps bytes coded answer is (not_coded fault why) = absurd (cc)
code_of s caps bytes coded answer is (encoded samples sound read) = record {
  samples = samples;
  stored = read;
  within = within (nat_lt caps.samples (length samples)) refl;
  is_code = (let same : _ ≡ coded = cc in sym same);
}
  where
    judged : option_or (judged_samples caps.samples (Ok samples)) None ≡ None
    judged = ap (λ t. option_or (judged_samples caps.samples t) None) (sym read) ∙ sound

    within : (t : Bool) → nat_lt caps.samples (length samples) ≡ t → length samples ≤ caps.samples
    within true e =
        let more : option_or (if true then Some (TooManySamples caps.samples) else None) None ≡ None =
        ap (λ t. option_or (if t then Some (TooManySamples caps.samples) else None) None) (sym e) ∙ judged in absurd (cc)
    within false e = ltb-false caps.samples (length samples) e

only_refusal : (o : Option Fault) (fault : Fault) → option_or o None ≡ Some fault → o ≡ Some fault
only_refusal None fault e = e
only_refusal (Some f) fault e = e

pub code_refusal : (s : Settings) (caps : Caps) (bytes : List ℕ) (answer : Result (List ℕ) Fault) (fault : Fault) → answer ≡ Err fault
    → IsEncoded s caps (input_of bytes false) answer
    → bytes_refusal s caps.samples bytes ≡ Some fault
code_refusal s caps bytes answer fault is (not_coded f why) =
    let same : f ≡ fault = cc in only_refusal (bytes_refusal s caps.samples bytes) fault (why ∙ ap Some same)
code_refusal s caps bytes answer fault is (encoded samples sound read) = absurd (cc)

-- if the answer is bytes, a result with these bytes is the code of the samples
pub code_ok_bytes : {X : Type 0} (s : Settings) (caps : Caps) (bytes coded : List ℕ) (view : X → List ℕ) (r : Result X Fault)
    → OrMemory (IsEncoded s caps (input_of bytes false)) (Ok coded) → IfOk r (λ x. view x ≡ coded) → IfOk r (λ x. IsCodeOf s caps.samples bytes (view x))
code_ok_bytes s caps bytes coded view r (inl lacks) made = absurd (cc)
code_ok_bytes s caps bytes coded view (Ok x) (inr answered) made =
    subst (IsCodeOf s caps.samples bytes) (sym made) (code_of s caps bytes coded (Ok coded) refl answered)
code_ok_bytes s caps bytes coded view (Err fault) (inr answered) made = made

code_err : (s : Settings) (caps : Caps) (bytes : List ℕ) (fault : Fault) → OrMemory (IsEncoded s caps (input_of bytes false)) (Err fault)
    → (fault ≡ Memory) ⊎ (bytes_refusal s caps.samples bytes ≡ Some fault)
code_err s caps bytes fault (inl lacks) = let same : fault ≡ Memory = cc in inl same
code_err s caps bytes fault (inr answered) = inr (code_refusal s caps bytes (Err fault) fault refl answered)

-- a refusal that is passed on
pub code_err_out : {X : Type 0} (s : Settings) (caps : Caps) (bytes : List ℕ) (r : Result X Fault) (out fault : Fault) → r ≡ Err out → out ≡ fault
    → OrMemory (IsEncoded s caps (input_of bytes false)) (Err fault) → IfErr r (λ fault. (fault ≡ Memory) ⊎ (bytes_refusal s caps.samples bytes ≡ Some fault))
code_err_out {X} s caps bytes r out fault is same answered =
    let P : Result X Fault → Type 0 = λ r. IfErr r (λ fault. (fault ≡ Memory) ⊎ (bytes_refusal s caps.samples bytes ≡ Some fault)) in
    subst P (sym (is ∙ ap Err same)) (code_err s caps bytes fault answered)

-- ---- decoding

short_enough : (limit : ℕ) (bytes : List ℕ) → intake_refusal limit (input_of bytes false) ≡ None → length bytes ≤ limit
short_enough limit bytes sound = by_length (nat_lt limit (length bytes)) refl sound
  where
    by_length : (t : Bool) → nat_lt limit (length bytes) ≡ t → (if t then Some (StreamTooLong limit) else None) ≡ None → length bytes ≤ limit
    by_length true e why = absurd (cc)
    by_length false e why = ltb-false limit (length bytes) e

pub reading_of : (s : Settings) (caps : Caps) (count : Option ℕ) (coded bytes : List ℕ) (answer : Result (List ℕ) Fault) → answer ≡ Ok bytes
    → IsDecoded s caps count (input_of coded false) answer → IsStoredReadingOf s caps count coded bytes
reading_of s caps count coded bytes answer is (not_taken fault why) = absurd (cc)
reading_of s caps count coded bytes answer is (output.not_counted fault taken above) = absurd (cc)
reading_of s caps count coded bytes answer is (decoded samples read) = record {
  short_enough = short_enough caps.bytes coded read.taken;
  within = read.within;
  samples = samples;
  reading = read.reading;
  stored = (let same : _ ≡ bytes = cc in sym same);
}
reading_of s caps count coded bytes answer is (output.faulty fault taken within wrong) = absurd (cc)

pub refusal_of : (s : Settings) (caps : Caps) (count : Option ℕ) (coded : List ℕ) (answer : Result (List ℕ) Fault) (fault : Fault) → answer ≡ Err fault
    → IsDecoded s caps count (input_of coded false) answer → RefusesCoded s caps count coded fault
refusal_of s caps count coded answer fault is (not_taken f why) = by_length (nat_lt caps.bytes (length coded)) refl why
  where
    by_length : (t : Bool) → nat_lt caps.bytes (length coded) ≡ t → (if t then Some (StreamTooLong caps.bytes) else None) ≡ Some f
        → RefusesCoded s caps count coded fault
    by_length true e why =
        let same : StreamTooLong caps.bytes ≡ fault = cc in
        subst (RefusesCoded s caps count coded) same (too_many_bytes (ltb-true caps.bytes (length coded) e))
    by_length false e why = absurd (cc)
refusal_of s caps count coded answer fault is (output.not_counted f taken above) =
    let same : f ≡ fault = cc in subst (RefusesCoded s caps count coded) same (not_counted f (short_enough caps.bytes coded taken) above)
refusal_of s caps count coded answer fault is (decoded samples read) = absurd (cc)
refusal_of s caps count coded answer fault is (output.faulty f taken within wrong) =
    let same : f ≡ fault = cc in subst (RefusesCoded s caps count coded) same (faulty f (short_enough caps.bytes coded taken) within wrong)

pub decoded_in_memory : (s : Settings) (caps : Caps) (count : Option ℕ) (source : Taking) (sink : Putting) (coded held : List ℕ)
    → source.before ≡ Some coded → source.failures ≡ 0 → sink.before ≡ Some [] → sink.after ≡ Some held
    → Leaves (IsDecoded s caps count) source (are_past caps.bytes) sink (Ok tt) → IsStoredReadingOf s caps count coded held
decoded_in_memory s caps count source sink coded held before sound empty holds leaves =
    reading_of s caps count coded held (Ok held) refl
    (answered_ok (IsDecoded s caps count) (are_past caps.bytes) source sink coded held (Ok tt) (decoding-whole s caps count)
    before sound empty holds leaves refl)

pub undecoded_in_memory : (s : Settings) (caps : Caps) (count : Option ℕ) (source : Taking) (sink : Putting) (coded : List ℕ) (fault f : Fault)
    → source.before ≡ Some coded → source.failures ≡ 0 → (fault ≡ Write → f ≡ Memory) → (f ≡ fault) ⊎ (fault ≡ Write)
    → Leaves (IsDecoded s caps count) source (are_past caps.bytes) sink (Err fault) → (f ≡ Memory) ⊎ RefusesCoded s caps count coded f
undecoded_in_memory s caps count source sink coded fault f before sound memory other leaves =
    by_answer (as_refusal (λ f. IsDecoded s caps count (input_of coded false) (Err f)) fault f memory other
    (answered_err (IsDecoded s caps count) (are_past caps.bytes) source sink coded (Err fault) fault (decoding-whole s caps count) before sound leaves refl))
  where
    by_answer : (f ≡ Memory) ⊎ IsDecoded s caps count (input_of coded false) (Err f) → (f ≡ Memory) ⊎ RefusesCoded s caps count coded f
    by_answer (inl lacks) = inl lacks
    by_answer (inr answered) = inr (refusal_of s caps count coded (Err f) f refl answered)
