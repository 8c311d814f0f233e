-- An input that is refused by its front.
use Rattle.std.proofs.Common.{◌≡◌, ◌↔◌, ℕ, ◌+◌, ◌<◌, Bool, true, false, if◌then◌else◌, Option, Some, None, Result, Err, List, [], ◌++◌, length, refl, sym, ap, ◌∙◌, subst, arith}
use Rattle.std.specs.Prelude.{is_some}
use Rattle.std.specs.Option.{option_or}
use Rattle.std.specs.Io.KnownBytes.{Consumes, IsAtEnd}
use Rattle.std.proofs.lemmas.Bool.{lt-ltb, ltb-true}
use Rattle.std.proofs.lemmas.List.{length-append, append-nil}
use Rattle.aec_params.specs.declared.settings.Settings.{Settings}
use Rattle.aec_params.specs.declared.fault.Fault.{Fault}
use Rattle.aec_params.specs.declared.fault.Fault.TheVariants.{Read, StreamTooLong}
use Rattle.aec_params.specs.Limits.{Caps}
use Rattle.aec_params.specs.Params.{IsAllowed}
use Rattle.aec_params.specs.Stored.{samples_of_bytes}
use Rattle.aec_interval.specs.Taking.{TakenSamples, judged_samples}
use Rattle.aec_interval.specs.Feeding.{Coder, fresh_coder, taken_of}
use Rattle.aec_interval.proofs.CutLemmas.{cuts_make_no_difference}
use Rattle.aec_interval.proofs.FeedingLemmas.{taken_of-refused}
use Rattle.aec_engine.specs.Transfers.{Input, input_of, are_past}
use Rattle.aec_engine.specs.Output.{IsEncoded, are_refused, coding_refusal, not_coded, IsDecoded, intake_refusal, not_taken, IsRanged, not_decoded, outside, cut_out}
use Rattle.aec_engine.specs.Laws.{IsJudgedByFront, IsJudgedWhole}
use Rattle.aec_engine.proofs.AnswerLemmas.{only-not_coded, only-not_taken}

-- ---- coding

-- the refusal of samples stays the same, whatever follows them
judged-front : (s : Settings) (limit : ℕ) (front rest : List ℕ) (fault : Fault) → IsAllowed s → judged_samples limit (samples_of_bytes s front) ≡ Some fault
    → judged_samples limit (samples_of_bytes s (front ++ rest)) ≡ Some fault
judged-front s limit front rest fault allowed is =
    let c : Coder = fresh_coder s limit in
    let cuts = cuts_make_no_difference s limit allowed in
    let refusal : (taken_of c front).refusal ≡ Some fault = cuts.judged front ∙ is in
    sym (cuts.judged (front ++ rest)) ∙ (ap (λ (t : TakenSamples). t.refusal) (taken_of-refused c front rest fault allowed refusal) ∙ refusal)

pub coding-front : (s : Settings) (caps : Caps) (front rest : List ℕ) → IsAllowed s → are_refused s caps.samples front ≡ true
    → IsJudgedByFront (IsEncoded s caps) front rest
coding-front s caps front rest allowed refused = by_refusal (judged_samples caps.samples (samples_of_bytes s front)) refl refused
  where
    judged : (bytes : List ℕ) (fault : Fault) (failed : Bool) (answer : Result (List ℕ) Fault)
        → judged_samples caps.samples (samples_of_bytes s bytes) ≡ Some fault → IsEncoded s caps (input_of bytes failed) answer ↔ (answer ≡ Err fault)
    judged bytes fault failed answer is =
        let why : coding_refusal s caps.samples (input_of bytes failed) ≡ Some fault = ap (λ o. option_or o (if failed then Some Read else None)) is in (
          λ answered. only-not_coded s caps (input_of bytes failed) fault answer why answered,
          λ same. subst (IsEncoded s caps (input_of bytes failed)) (sym same) (not_coded fault why),
        )

    by_refusal : (t : Option Fault) → judged_samples caps.samples (samples_of_bytes s front) ≡ t → is_some t ≡ true
        → IsJudgedByFront (IsEncoded s caps) front rest
    by_refusal None is some = absurd (cc)
    by_refusal (Some fault) is some = record {
      fault = fault;
      of_front = λ failed answer. judged front fault failed answer is;
      of_whole = λ failed answer. judged (front ++ rest) fault failed answer (judged-front s caps.samples front rest fault allowed is);
    }

-- ---- decoding

refused_whole : (limit : ℕ) (bytes : List ℕ) (failed : Bool) → limit < length bytes → intake_refusal limit (input_of bytes failed) ≡ Some (StreamTooLong limit)
refused_whole limit bytes failed past =
    ap (λ t. if t then Some (StreamTooLong limit) else (if failed then Some Read else None)) (lt-ltb limit (length bytes) past)

-- if the refusal of the intake is the only answer, a front that is longer than the limit is enough
pub judged_by_intake : {A E : Type 0} (named : Fault → E) (answers : Input → Result A E → Type 0) (limit : ℕ) (front rest : List ℕ) → limit < length front
    → ((input : Input) (fault : Fault) (answer : Result A E) → intake_refusal limit input ≡ Some fault
    → answers input answer ↔ (answer ≡ Err (named fault)))
    → IsJudgedByFront answers front rest
judged_by_intake named answers limit front rest past refusing =
    let e : length (front ++ rest) ≡ length front + length rest = length-append front rest in
    let longer : limit < length (front ++ rest) = omega (arith, past, e) in
    record {
      fault = named (StreamTooLong limit);
      of_front = λ failed answer. refusing (input_of front failed) (StreamTooLong limit) answer (refused_whole limit front failed past);
      of_whole = λ failed answer. refusing (input_of (front ++ rest) failed) (StreamTooLong limit) answer (refused_whole limit (front ++ rest) failed longer);
    }

pub decoding-front : (s : Settings) (caps : Caps) (count : Option ℕ) (front rest : List ℕ) → caps.bytes < length front
    → IsJudgedByFront (IsDecoded s caps count) front rest
decoding-front s caps count front rest past =
    judged_by_intake (λ fault. fault) (IsDecoded s caps count) caps.bytes front rest past (λ input fault answer refused. (
      λ answered. only-not_taken s caps count input fault answer refused answered,
      λ is. subst (IsDecoded s caps count input) (sym is) (not_taken fault refused),
    ))

-- ---- ranges

only-not_ranged : (s : Settings) (caps : Caps) (count : Option ℕ) (first len : ℕ) (input : Input) (fault : Fault) (answer : Result (List ℕ) Fault)
    → intake_refusal caps.bytes input ≡ Some fault → IsRanged s caps count first len input answer → answer ≡ Err fault
only-not_ranged s caps count first len input fault answer refused (not_decoded g answered) = only-not_taken s caps count input fault (Err g) refused answered
only-not_ranged s caps count first len input fault answer refused (outside samples read past) = let sound = read.taken in absurd (cc)
only-not_ranged s caps count first len input fault answer refused (cut_out samples read within) = let sound = read.taken in absurd (cc)

pub ranging-front : (s : Settings) (caps : Caps) (count : Option ℕ) (first len : ℕ) (front rest : List ℕ) → caps.bytes < length front
    → IsJudgedByFront (IsRanged s caps count first len) front rest
ranging-front s caps count first len front rest past =
    judged_by_intake (λ fault. fault) (IsRanged s caps count first len) caps.bytes front rest past (λ input fault answer refused. (
      λ answered. only-not_ranged s caps count first len input fault answer refused answered,
      λ is. subst (IsRanged s caps count first len input) (sym is) (not_decoded fault (not_taken fault refused)),
    ))

-- ---- what a source gave

pub judged_whole : {A E : Type 0} (answers : Input → Result A E → Type 0) (enough : List ℕ → Bool)
    → ((front rest : List ℕ) → enough front ≡ true → IsJudgedByFront answers front rest) → IsJudgedWhole answers enough
judged_whole answers enough fronts source input bytes answer before sound gave answered =
    by_after source.after (subst (λ given. Consumes given source.after input.bytes) before gave.taken) (λ short. gave.whole short ends)
  where
    by_failure : (t : Bool) → input.failed ≡ t → input.failed ≡ false
    by_failure true e = let once : source.failures ≡ 1 = gave.failed e in absurd (omega (arith, once, sound))
    by_failure false e = e

    ends : input.failed ≡ false
    ends = by_failure input.failed refl

    by_test : (t : Bool) (rest : List ℕ) → enough input.bytes ≡ t → bytes ≡ input.bytes ++ rest
        → (enough input.bytes ≡ false → rest ≡ []) → answers (input_of bytes false) answer
    by_test true rest e all whole =
        let judged : IsJudgedByFront answers input.bytes rest = fronts input.bytes rest e in
        subst (λ bytes. answers (input_of bytes false) answer) (sym all)
        ((judged.of_whole false answer).1 ((judged.of_front input.failed answer).0 answered))
    by_test false rest e all whole =
        let is : bytes ≡ input.bytes = all ∙ (ap (λ rest. input.bytes ++ rest) (whole e) ∙ append-nil input.bytes) in
        subst (λ bytes. answers (input_of bytes false) answer) (sym is)
        (subst (λ failed. answers (input_of input.bytes failed) answer) ends answered)

    by_after : (after : Option (List ℕ)) → Consumes (Some bytes) after input.bytes → (enough input.bytes ≡ false → IsAtEnd after)
        → answers (input_of bytes false) answer
    by_after None taken whole = absurd taken
    by_after (Some rest) taken whole = by_test (enough input.bytes) rest refl taken whole

-- what a source gave is enough, if a front that is longer than the limit is enough
pub judged_by_limit : {A E : Type 0} (answers : Input → Result A E → Type 0) (limit : ℕ)
    → ((front rest : List ℕ) → limit < length front → IsJudgedByFront answers front rest) → IsJudgedWhole answers (are_past limit)
judged_by_limit answers limit fronts = judged_whole answers (are_past limit) (λ front rest e. fronts front rest (ltb-true limit (length front) e))

pub coding-whole : (s : Settings) (caps : Caps) → IsAllowed s → IsJudgedWhole (IsEncoded s caps) (are_refused s caps.samples)
coding-whole s caps allowed =
    judged_whole (IsEncoded s caps) (are_refused s caps.samples) (λ front rest refused. coding-front s caps front rest allowed refused)

pub decoding-whole : (s : Settings) (caps : Caps) (count : Option ℕ) → IsJudgedWhole (IsDecoded s caps count) (are_past caps.bytes)
decoding-whole s caps count = judged_by_limit (IsDecoded s caps count) caps.bytes (λ front rest past. decoding-front s caps count front rest past)

pub ranging-whole : (s : Settings) (caps : Caps) (count : Option ℕ) (first len : ℕ) → IsJudgedWhole (IsRanged s caps count first len) (are_past caps.bytes)
ranging-whole s caps count first len =
    judged_by_limit (IsRanged s caps count first len) caps.bytes (λ front rest past. ranging-front s caps count first len front rest past)
