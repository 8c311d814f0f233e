-- Each script and input have one answer.
use Rattle.std.proofs.Common.{◌≡◌, ℕ, zero, suc, ◌+◌, ◌-◌, ◌/◌, ◌==◌, false, if◌then◌else◌, Option, Some, None, Result, Ok, Err, ℤ, List, [], ◌∷◌, length, refl, sym, ap, ◌∙◌, arith}
use Rattle.std.specs.Int.{div_ceil}
use Rattle.std.proofs.lemmas.Bool.{ne_eqb}
use Rattle.std.proofs.Math.Nat.{zero-div}
use Rattle.aec_params.proofs.CuttingLaws.{div_ceil-zero}
use Rattle.aec_params.specs.declared.settings.Settings.{Settings}
use Rattle.aec_params.specs.declared.fault.Fault.{Fault}
use Rattle.aec_params.specs.Limits.{Caps}
use Rattle.aec_params.specs.Params.{IsAllowed, interval_len}
use Rattle.aec_bits.specs.Codec.{Format}
use Rattle.aec_params.specs.Codewords.{bytes_of}
use Rattle.aec_params.specs.Streams.{stream_of}
use Rattle.aec_interval.specs.IntervalFormat.{interval_format}
use Rattle.aec_engine.specs.declared.scripts.EditFault.{EditFault}
use Rattle.aec_engine.specs.declared.scripts.EditFault.TheVariants.{Plain}
use Rattle.aec_engine.specs.Transfers.{Input}
use Rattle.aec_engine.specs.Output.{IsRead, IsDecoded, not_taken, not_counted, decoded, faulty}
use Rattle.aec_engine.specs.Scripts.{listing_of}
use Rattle.aec_engine.specs.Editing.{script_refusal, Left, left_with, edits_left, first_calls, script_left, Recoded, IsEdited, no_script, not_decoded, not_edited, edited}
use Rattle.aec_engine.specs.Laws.{HasOneAnswer}
use Rattle.aec_engine.proofs.AnswerLemmas.{decoding_has_one_answer}
use Rattle.aec_engine.proofs.RangeAnswerLemmas.{one_read, not_both}

-- the answer for what a script leaves, or for the refusal of one of its edits
abbrev edit_answer : Settings → Result Left EditFault → Result Recoded EditFault
edit_answer s (Ok left) = Ok (record { bytes = bytes_of (stream_of s left.samples); calls = left.calls })
edit_answer s (Err fault) = Err fault

pub only-no_script : (s : Settings) (caps : Caps) (count : Option ℕ) (script input : Input) (fault : Fault) (other : Result Recoded EditFault)
    → script_refusal caps.bytes script ≡ Some fault → IsEdited s caps count script input other → other ≡ Err (Plain fault)
only-no_script s caps count script input fault other is (no_script f also) = let same : f ≡ fault = cc in ap (λ f. Err (Plain f)) same
only-no_script s caps count script input fault other is (not_decoded f sound fails) = absurd (cc)
only-no_script s caps count script input fault other is (not_edited samples f sound read stops) = absurd (cc)
only-no_script s caps count script input fault other is (edited samples left sound read leaves) = absurd (cc)

only-undecoded : (s : Settings) (caps : Caps) (count : Option ℕ) (script input : Input) (fault : Fault) (other : Result Recoded EditFault) → IsAllowed s
    → script_refusal caps.bytes script ≡ None → IsDecoded s caps count input (Err fault) → IsEdited s caps count script input other
    → other ≡ Err (Plain fault)
only-undecoded s caps count script input fault other allowed sound fails (no_script f is) = absurd (cc)
only-undecoded s caps count script input fault other allowed sound fails (not_decoded f also again) =
    let one = decoding_has_one_answer s caps count input allowed in
    let same : Err f ≡ Err fault = one.only (Err f) again ∙ sym (one.only (Err fault) fails) in
    let is : f ≡ fault = cc in ap (λ f. Err (Plain f)) is
only-undecoded s caps count script input fault other allowed sound fails (not_edited samples f also read stops) =
    absurd (not_both s caps count input samples fault allowed read fails)
only-undecoded s caps count script input fault other allowed sound fails (edited samples left also read leaves) =
    absurd (not_both s caps count input samples fault allowed read fails)

only-scripted : (s : Settings) (caps : Caps) (count : Option ℕ) (script input : Input) (samples : List ℤ) (other : Result Recoded EditFault) → IsAllowed s
    → script_refusal caps.bytes script ≡ None → IsRead s caps count input samples → IsEdited s caps count script input other
    → other ≡ edit_answer s (script_left s caps script samples)
only-scripted s caps count script input samples other allowed sound read (no_script f is) = absurd (cc)
only-scripted s caps count script input samples other allowed sound read (not_decoded f also fails) =
    absurd (not_both s caps count input samples f allowed read fails)
only-scripted s caps count script input samples other allowed sound read (not_edited others f also again stops) =
    sym (ap (edit_answer s) (ap (script_left s caps script) (sym (one_read s caps count input samples others allowed read again)) ∙ stops))
only-scripted s caps count script input samples other allowed sound read (edited others left also again leaves) =
    sym (ap (edit_answer s) (ap (script_left s caps script) (sym (one_read s caps count input samples others allowed read again)) ∙ leaves))

pub editing_has_one_answer : (s : Settings) (caps : Caps) (count : Option ℕ) (script input : Input) → IsAllowed s
    → HasOneAnswer (IsEdited s caps count script) input
editing_has_one_answer s caps count script input allowed = by_script (script_refusal caps.bytes script) refl
  where
    by_refusal : (fault : Fault) → script_refusal caps.bytes script ≡ None → IsDecoded s caps count input (Err fault)
        → HasOneAnswer (IsEdited s caps count script) input
    by_refusal fault sound fails = record {
      answer = Err (Plain fault);
      is_answer = not_decoded fault sound fails;
      only = λ other is. only-undecoded s caps count script input fault other allowed sound fails is;
    }

    by_edits : (samples : List ℤ) (t : Result Left EditFault) → script_left s caps script samples ≡ t → script_refusal caps.bytes script ≡ None
        → IsRead s caps count input samples → IsEdited s caps count script input (edit_answer s t)
    by_edits samples (Ok left) leaves sound read = edited samples left sound read leaves
    by_edits samples (Err fault) stops sound read = not_edited samples fault sound read stops

    by_decoding : (answer : Result (List ℕ) Fault) → script_refusal caps.bytes script ≡ None → IsDecoded s caps count input answer
        → HasOneAnswer (IsEdited s caps count script) input
    by_decoding answer sound (not_taken fault is) = by_refusal fault sound (not_taken fault is)
    by_decoding answer sound (not_counted fault taken is) = by_refusal fault sound (not_counted fault taken is)
    by_decoding answer sound (decoded samples read) = record {
      answer = edit_answer s (script_left s caps script samples);
      is_answer = by_edits samples (script_left s caps script samples) refl sound read;
      only = λ other is. only-scripted s caps count script input samples other allowed sound read is;
    }
    by_decoding answer sound (faulty fault taken within is) = by_refusal fault sound (faulty fault taken within is)

    by_script : (t : Option Fault) → script_refusal caps.bytes script ≡ t → HasOneAnswer (IsEdited s caps count script) input
    by_script (Some fault) is = record {
      answer = Err (Plain fault);
      is_answer = no_script fault is;
      only = λ other answered. only-no_script s caps count script input fault other is answered;
    }
    by_script None sound =
        let decoding = decoding_has_one_answer s caps count input allowed in
        by_decoding decoding.answer sound decoding.is_answer

-- the first append calls the coder once for each interval
first_calls-each : (f : Format) (samples : List ℤ) → first_calls f samples ≡ div_ceil (length samples) f.most
first_calls-each f [] = by_len f.most
  where
    by_len : (n : ℕ) → 0 ≡ div_ceil 0 n
    by_len zero = refl
    by_len (suc n) = sym (div_ceil-zero (suc n) (omega arith))
first_calls-each f (x ∷ samples) =
    let len : ℕ = length (x ∷ samples) in
    let some : (len == 0) ≡ false = ne_eqb len 0 (λ is. absurd (omega (arith, is))) in
    let none : div_ceil (0 + len) f.most - 0 / f.most ≡ div_ceil (0 + len) f.most = omega (arith, zero-div f.most) in
    let whole : 0 + len ≡ len = omega arith in
    ap (λ t. if t then 0 else div_ceil (0 + len) f.most - 0 / f.most) some ∙ (none ∙ ap (λ k. div_ceil k f.most) whole)

-- a script without edits
pub no_edits_code : (s : Settings) (caps : Caps) (count : Option ℕ) (script input : Input) (samples : List ℤ) → script_refusal caps.bytes script ≡ None
    → (listing_of script.bytes).edits ≡ [] → IsRead s caps count input samples
    → IsEdited s caps count script input (Ok (record { bytes = bytes_of (stream_of s samples); calls = div_ceil (length samples) (interval_len s) }))
no_edits_code s caps count script input samples sound none read =
    let f : Format = interval_format s in
    let lines : List ℕ = (listing_of script.bytes).lines in
    let left : Left = left_with samples (div_ceil (length samples) f.most) in
    edited samples left sound read
    (ap (λ edits. edits_left f caps.samples (first_calls f samples) samples edits lines) none
    ∙ ap (λ calls. Ok (left_with samples calls)) (first_calls-each f samples))
