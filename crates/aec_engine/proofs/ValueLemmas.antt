-- How the values of scripts are read.
use Rattle.std.proofs.Common.{◌≡◌, ap, sym, ◌∙◌, Bool, true, false, length, ◌&&◌, ◌==◌, if◌then◌else◌, refl, Some, None, slice_index, ℤ, pos, negsuc, w64}
use Rattle.std.specs.Prelude.{Ok, Err, Result}
use Rattle.std.specs.Int.RustNames.{FitsSigned}
use Rattle.std.specs.Result.{result_ok}
use Rattle.std.specs.Str.Parse.{ParsesSigned, signed_digits_value, without_leading_sign}
use Rattle.std.proofs.lemmas.Bool.{ltb-true, lt-ltb}
use Rattle.aec_engine.specs.Numerals.{Text, is_numeral, fits_i64}
use Rattle.aec_engine.specs.Scripts.{signed_in, value_in}
use Rattle.aec_engine.proofs.NumeralLemmas.{split, list_all-digits, all_digits}

-- a number passes the test exactly if it fits signed 64 bits
fits_i64-true : (z : ℤ) → FitsSigned w64 z → fits_i64 z ≡ true
fits_i64-true (pos n) h = lt-ltb _ _ h.sfits
fits_i64-true (negsuc n) h = lt-ltb _ _ h.sfits

fits_from_test : (z : ℤ) → fits_i64 z ≡ true → FitsSigned w64 z
fits_from_test (pos n) e = record { sfits = ltb-true _ _ e }
fits_from_test (negsuc n) e = record { sfits = ltb-true _ _ e }

-- `parse` returns the number of a text of digits, with or without a sign before them
signed_in-read : {E : Type 0} (text : Text) (r : Result ℤ E) → ParsesSigned w64 10 text r → result_ok r ≡ signed_in text
signed_in-read text (Ok z) h =
    let digits = without_leading_sign text in
    rw (lt-ltb 0 (length digits) h.0.0.0, list_all-digits digits h.0.0.1, fits_i64-true (signed_digits_value 10 text) h.0.1) (ap Some h.1)
signed_in-read text (Err e) h = by_test (is_numeral (without_leading_sign text) && fits_i64 (signed_digits_value 10 text)) refl
  where
    by_test : (t : Bool) → (is_numeral (without_leading_sign text) && fits_i64 (signed_digits_value 10 text)) ≡ t → None ≡ signed_in text
    by_test false t = rw t refl
    by_test true t =
        let outer = split _ _ t in
        let inner = split _ _ outer.0 in
        absurd (h ((ltb-true _ _ inner.0, all_digits _ inner.1), fits_from_test _ outer.1))

-- if a text doesn't begin with a plus, `parse` returns its value
pub value_in-read : {E : Type 0} (text : Text) (r : Result ℤ E) → ParsesSigned w64 10 text r → (slice_index text 0 == 43) ≡ false
    → result_ok r ≡ value_in text
value_in-read text r parses other = signed_in-read text r parses ∙ sym (ap (λ t. if t then None else signed_in text) other)

pub ruleset digits_after_a_minus = (value_in-read)
