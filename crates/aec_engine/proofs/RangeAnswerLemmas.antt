-- Cutting a range out of an input has one answer.
use Rattle.std.proofs.Common.{◌≡◌, ℕ, ◌+◌, Bool, true, false, nat_lt, if◌then◌else◌, Option, Result, Ok, Err, ℤ, List, length, refl, sym, ap, ◌∙◌}
use Rattle.std.proofs.lemmas.Bool.{lt-ltb, le-ltb, ltb-true, ltb-false}
use Rattle.aec_params.specs.declared.settings.Settings.{Settings}
use Rattle.aec_params.specs.declared.fault.Fault.{Fault}
use Rattle.aec_params.specs.declared.fault.Fault.TheVariants.{OutOfRange}
use Rattle.aec_params.specs.Limits.{Caps}
use Rattle.aec_params.specs.Params.{IsAllowed}
use Rattle.aec_params.specs.Codewords.{bits_of_bytes}
use Rattle.aec_interval.proofs.ReadingLemmas.{bits_are_read_in_one_way}
use Rattle.aec_engine.specs.Transfers.{Input}
use Rattle.aec_engine.specs.Output.{IsRead, IsDecoded, not_taken, not_counted, decoded, faulty, IsRanged, not_decoded, outside, cut_out, all_stored, samples_from}
use Rattle.aec_engine.specs.Laws.{HasOneAnswer}
use Rattle.aec_engine.proofs.AnswerLemmas.{decoding_has_one_answer}

-- the answer for samples that are read
abbrev range_answer : Settings → ℕ → ℕ → List ℤ → Result (List ℕ) Fault
range_answer s first len samples =
    if nat_lt (length samples) (first + len) then Err (OutOfRange (length samples)) else Ok (all_stored s (samples_from first len samples))

pub one_read : (s : Settings) (caps : Caps) (count : Option ℕ) (input : Input) (samples others : List ℤ) → IsAllowed s → IsRead s caps count input samples
    → IsRead s caps count input others → others ≡ samples
one_read s caps count input samples others allowed read also =
    (bits_are_read_in_one_way s count caps.samples (bits_of_bytes input.bytes) allowed).one_reading others samples also.reading read.reading

pub not_both : (s : Settings) (caps : Caps) (count : Option ℕ) (input : Input) (samples : List ℤ) (fault : Fault) → IsAllowed s
    → IsRead s caps count input samples → IsDecoded s caps count input (Err fault) → ⊥
not_both s caps count input samples fault allowed read refused =
    let one = decoding_has_one_answer s caps count input allowed in
    let bytes = one.only (Ok (all_stored s samples)) (decoded samples read) in
    let fails = one.only (Err fault) refused in
    let same : Ok (all_stored s samples) ≡ Err fault = bytes ∙ sym fails in
    absurd (cc)

only-read : (s : Settings) (caps : Caps) (count : Option ℕ) (first len : ℕ) (input : Input) (samples : List ℤ) (other : Result (List ℕ) Fault) → IsAllowed s
    → IsRead s caps count input samples → IsRanged s caps count first len input other → other ≡ range_answer s first len samples
only-read s caps count first len input samples other allowed read (not_decoded fault refused) =
    absurd (not_both s caps count input samples fault allowed read refused)
only-read s caps count first len input samples other allowed read (outside others also past) =
    sym (ap (λ t. if t then Err (OutOfRange (length others)) else Ok (all_stored s (samples_from first len others)))
    (lt-ltb (length others) (first + len) past))
    ∙ ap (range_answer s first len) (one_read s caps count input samples others allowed read also)
only-read s caps count first len input samples other allowed read (cut_out others also within) =
    sym (ap (λ t. if t then Err (OutOfRange (length others)) else Ok (all_stored s (samples_from first len others)))
    (le-ltb (length others) (first + len) within))
    ∙ ap (range_answer s first len) (one_read s caps count input samples others allowed read also)

only-refused : (s : Settings) (caps : Caps) (count : Option ℕ) (first len : ℕ) (input : Input) (fault : Fault) (other : Result (List ℕ) Fault) → IsAllowed s
    → IsDecoded s caps count input (Err fault) → IsRanged s caps count first len input other → other ≡ Err fault
only-refused s caps count first len input fault other allowed refused (not_decoded g also) =
    let one = decoding_has_one_answer s caps count input allowed in
    one.only (Err g) also ∙ sym (one.only (Err fault) refused)
only-refused s caps count first len input fault other allowed refused (outside others read past) =
    absurd (not_both s caps count input others fault allowed read refused)
only-refused s caps count first len input fault other allowed refused (cut_out others read within) =
    absurd (not_both s caps count input others fault allowed read refused)

pub ranging_has_one_answer : (s : Settings) (caps : Caps) (count : Option ℕ) (first len : ℕ) (input : Input) → IsAllowed s
    → HasOneAnswer (IsRanged s caps count first len) input
ranging_has_one_answer s caps count first len input allowed = by_decoding decoding.answer decoding.is_answer
  where
    decoding : HasOneAnswer (IsDecoded s caps count) input
    decoding = decoding_has_one_answer s caps count input allowed

    by_refusal : (fault : Fault) → IsDecoded s caps count input (Err fault) → HasOneAnswer (IsRanged s caps count first len) input
    by_refusal fault refused = record {
      answer = Err fault;
      is_answer = not_decoded fault refused;
      only = λ other answered. only-refused s caps count first len input fault other allowed refused answered;
    }

    by_place : (samples : List ℤ) (t : Bool) → nat_lt (length samples) (first + len) ≡ t → IsRead s caps count input samples
        → IsRanged s caps count first len input (if t then Err (OutOfRange (length samples)) else Ok (all_stored s (samples_from first len samples)))
    by_place samples true past read = outside samples read (ltb-true (length samples) (first + len) past)
    by_place samples false past read = cut_out samples read (ltb-false (length samples) (first + len) past)

    by_decoding : (answer : Result (List ℕ) Fault) → IsDecoded s caps count input answer → HasOneAnswer (IsRanged s caps count first len) input
    by_decoding answer (not_taken fault is) = by_refusal fault (not_taken fault is)
    by_decoding answer (not_counted fault taken is) = by_refusal fault (not_counted fault taken is)
    by_decoding answer (decoded samples read) = record {
      answer = range_answer s first len samples;
      is_answer = by_place samples (nat_lt (length samples) (first + len)) refl read;
      only = λ other answered. only-read s caps count first len input samples other allowed read answered;
    }
    by_decoding answer (faulty fault taken within is) = by_refusal fault (faulty fault taken within is)
