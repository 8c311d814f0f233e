-- A word that isn't UTF-8 is no number.
use Rattle.std.proofs.Common.{◌≡◌, Bool, true, false, [], ◌∷◌, ap, sym, ◌∙◌, ◌<◌, ◌&&◌, ◌==◌, if◌then◌else◌, refl, None, Some, slice_index, arith}
use Rattle.std.specs.Str.{IsUtf8}
use Rattle.std.specs.Str.Parse.{signed_digits_value, without_leading_sign}
use Rattle.std.proofs.lemmas.Fmt.{IsAscii-from_digits}
use Rattle.std.proofs.lemmas.Bool.{eqb-true}
use Rattle.std.proofs.lemmas.Str.{IsUtf8-from_ascii}
use Rattle.std.proofs.lemmas.Str.Ascii.{IsAscii-nil, IsAscii-cons}
use Rattle.aec_engine.specs.Numerals.{Text, is_numeral, fits_i64, decimal_in}
use Rattle.aec_engine.specs.Scripts.{signed_in, value_in}
use Rattle.aec_engine.proofs.NumeralLemmas.{split, all_digits}

-- decimal digits are UTF-8
numerals_are_text : (text : Text) → is_numeral text ≡ true → IsUtf8 text
numerals_are_text text e = IsUtf8-from_ascii text (IsAscii-from_digits text (all_digits text (split _ _ e).1))

pub decimal_in-no_text : (word : Text) → ¬ (IsUtf8 word) → None ≡ decimal_in 64 word
decimal_in-no_text word other = by_test (is_numeral word) refl
  where
    by_test : (t : Bool) → is_numeral word ≡ t → None ≡ decimal_in 64 word
    by_test false e = rw e refl
    by_test true e = absurd (other (numerals_are_text word e))

-- decimal digits after a minus, or without a sign, are UTF-8
signed_numerals_are_text : (text : Text) → (slice_index text 0 == 43) ≡ false → is_numeral (without_leading_sign text) ≡ true → IsUtf8 text
signed_numerals_are_text [] other e = IsUtf8-from_ascii [] IsAscii-nil
signed_numerals_are_text (x ∷ xs) other e = by_minus (x == 45) refl
  where
    by_minus : (t : Bool) → (x == 45) ≡ t → IsUtf8 (x ∷ xs)
    by_minus true is =
        let digits : is_numeral xs ≡ true = rw (other, is) at e in
        let small : x < 128 = omega (arith, eqb-true x 45 is) in
        IsUtf8-from_ascii _ (IsAscii-cons x xs small (IsAscii-from_digits xs (all_digits xs (split _ _ digits).1)))
    by_minus false is =
        let digits : is_numeral (x ∷ xs) ≡ true = rw (other, is) at e in
        numerals_are_text (x ∷ xs) digits

pub value_in-no_text : (word : Text) → ¬ (IsUtf8 word) → None ≡ value_in word
value_in-no_text word no_text = by_plus (slice_index word 0 == 43) refl
  where
    by_numeral : (slice_index word 0 == 43) ≡ false → (t : Bool) → is_numeral (without_leading_sign word) ≡ t → None ≡ signed_in word
    by_numeral other false e =
        sym (ap (λ t. if t && fits_i64 (signed_digits_value 10 word) then Some (signed_digits_value 10 word) else None) e)
    by_numeral other true e = absurd (no_text (signed_numerals_are_text word other e))

    by_plus : (t : Bool) → (slice_index word 0 == 43) ≡ t → None ≡ value_in word
    by_plus true e = sym (ap (λ t. if t then None else signed_in word) e)
    by_plus false e =
        by_numeral e (is_numeral (without_leading_sign word)) refl ∙ sym (ap (λ t. if t then None else signed_in word) e)

pub ruleset no_number = (decimal_in-no_text)

pub ruleset no_value = (value_in-no_text)
