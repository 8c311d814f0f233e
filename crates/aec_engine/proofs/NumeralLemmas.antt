-- How the numbers of words are read.
use Rattle.std.proofs.Common.{◌≡◌, ap, ap₂, sym, ◌∙◌, subst, refl, arith}
use Rattle.std.proofs.Common.{Bool, true, false, List, [], ◌∷◌, ℕ, ◌<◌, length, ◌&&◌, ◌==◌, ◌^◌, nat_lt, if◌then◌else◌, Option, Some, None, slice_index, Bor}
use Rattle.std.specs.Prelude.{Ok, Err, Result, MatchOption, option_map, option_and_then}
use Rattle.std.specs.List.{list_all, slice_split, join_with_byte, position_or_len, before_first, after_first}
use Rattle.std.specs.Result.{result_ok}
use Rattle.std.specs.Str.Parse.{AllDigits, ParsesUnsigned, digits_value, without_leading_plus}
use Rattle.std.specs.Char.{digit_value}
use Rattle.std.proofs.lemmas.Bool.{ltb-true, lt-ltb, eqb-true}
use Rattle.std.proofs.lemmas.List.Splits.{join_with_byte-slice_split, slice_split_first, slice_split_none}
use Rattle.std.proofs.lemmas.List.Sums.{fails_before_first}
use Rattle.std.proofs.lemmas.Str.Pattern.{IsSplitOnceResult, split_once_first}
use Rattle.aec_engine.specs.Numerals.{Text, is_numeral, decimal_in, option_number, numbers_in, range_in}

pub split : (a b : Bool) → (a && b) ≡ true → (a ≡ true) × (b ≡ true)
split true b e = (refl, e)
split false b e = cc

pub list_all-digits : (ds : List ℕ) → AllDigits 10 ds → list_all (λ d. nat_lt (digit_value d) 10) ds ≡ true
list_all-digits [] h = refl
list_all-digits (d ∷ ds) h = rw (lt-ltb (digit_value d) 10 h.0) (list_all-digits ds h.1)

pub all_digits : (ds : List ℕ) → list_all (λ d. nat_lt (digit_value d) 10) ds ≡ true → AllDigits 10 ds
all_digits [] e = tt
all_digits (d ∷ ds) e =
    let parts = split _ _ e in
    (ltb-true _ _ parts.0, all_digits ds parts.1)

-- `parse` returns the number in a text
pub option_number-read : {E : Type 0} (width : ℕ) (text : Text) (r : Result ℕ E) → ParsesUnsigned width 10 text r → result_ok r ≡ option_number width text
option_number-read width text (Ok n) h =
    let digits = without_leading_plus text in
    rw (lt-ltb 0 (length digits) h.0.0.0, list_all-digits digits h.0.0.1, lt-ltb (digits_value 10 digits) (2 ^ width) h.0.1) (ap Some h.1)
option_number-read width text (Err e) h = by_test (is_numeral digits && nat_lt (digits_value 10 digits) (2 ^ width)) refl
  where
    digits : Text
    digits = without_leading_plus text

    by_test : (t : Bool) → (is_numeral digits && nat_lt (digits_value 10 digits) (2 ^ width)) ≡ t → None ≡ option_number width text
    by_test false t = rw t refl
    by_test true t =
        let outer = split _ _ t in
        let inner = split _ _ outer.0 in
        absurd (h ((ltb-true _ _ inner.0, all_digits digits inner.1), ltb-true _ _ outer.1))

-- if a text doesn't begin with a plus, `parse` returns the number of a text of digits alone
pub decimal_in-read : {E : Type 0} (width : ℕ) (text : Text) (r : Result ℕ E) → ParsesUnsigned width 10 text r → (slice_index text 0 == 43) ≡ false
    → result_ok r ≡ decimal_in width text
decimal_in-read width text r parses other = option_number-read width text r parses ∙ by_test other
  where
    by_test : (slice_index text 0 == 43) ≡ false → option_number width text ≡ decimal_in width text
    by_test e = rw e refl

pub ruleset digits_alone = (decimal_in-read)

-- ---- `FIRST:LEN`

abbrev is_colon : ℕ → Bool
is_colon byte = byte == 58

-- two numbers, if there are both
abbrev pub both : Option ℕ → Option ℕ → Option (ℕ × ℕ)
both first len = option_and_then (λ i. option_map (λ n. (i, n)) len) first

both-none : (first : Option ℕ) → both first None ≡ None
both-none None = refl
both-none (Some i) = refl

-- digits have no colon
digits-uncut : (text : Text) → list_all (λ d. nat_lt (digit_value d) 10) text ≡ true → slice_split is_colon text ≡ text ∷ []
digits-uncut [] all = refl
digits-uncut (d ∷ text) all = by_colon (d == 58) refl (λ digits. digits-uncut text digits)
  where
    parts : (nat_lt (digit_value d) 10 ≡ true) × (list_all (λ d. nat_lt (digit_value d) 10) text ≡ true)
    parts = split _ _ all

    by_colon : (t : Bool) → (d == 58) ≡ t → (list_all (λ d. nat_lt (digit_value d) 10) text ≡ true → slice_split is_colon text ≡ text ∷ [])
        → slice_split is_colon (d ∷ text) ≡ (d ∷ text) ∷ []
    by_colon true e later =
        let digit : nat_lt (digit_value 58) 10 ≡ true = subst (λ d. nat_lt (digit_value d) 10 ≡ true) (eqb-true d 58 e) parts.0 in
        absurd (cc)
    by_colon false e later = rw (e, later parts.1) refl

-- after a first part, the rest is a number only if no colon cuts it again
numbers_in-rest : (first rest : Text) → numbers_in (first ∷ slice_split is_colon rest) ≡ both (decimal_in 64 first) (decimal_in 64 rest)
numbers_in-rest first rest = by_digits (is_numeral rest) refl
  where
    by_parts : (parts : List Text) → slice_split is_colon rest ≡ parts → decimal_in 64 rest ≡ None → numbers_in (first ∷ parts) ≡ None
    by_parts [] is none = refl
    by_parts (part ∷ []) is none =
        let whole : part ≡ rest = sym (ap (join_with_byte 58) is) ∙ join_with_byte-slice_split 58 rest in
        ap (λ text. both (decimal_in 64 first) (decimal_in 64 text)) whole ∙ (ap (both (decimal_in 64 first)) none ∙ both-none (decimal_in 64 first))
    by_parts (part ∷ next ∷ later) is none = refl

    by_digits : (t : Bool) → is_numeral rest ≡ t → numbers_in (first ∷ slice_split is_colon rest) ≡ both (decimal_in 64 first) (decimal_in 64 rest)
    by_digits true e = ap (λ parts. numbers_in (first ∷ parts)) (digits-uncut rest (split _ _ e).1)
    by_digits false e =
        let none : decimal_in 64 rest ≡ None = ap (λ t. if t && nat_lt (digits_value 10 rest) (2 ^ 64) then Some (digits_value 10 rest) else None) e in
        by_parts (slice_split is_colon rest) refl none ∙ sym (ap (both (decimal_in 64 first)) none ∙ both-none (decimal_in 64 first))

uncut : (text : Text) → position_or_len is_colon text ≡ length text → slice_split is_colon text ≡ text ∷ []
uncut text e = slice_split_none is_colon text (λ k d within. fails_before_first is_colon text k d (omega (arith, e, within)))

-- where `split_once` cuts a text; nowhere if it has no colon
abbrev Splits : Text → Option (Bor Text × Bor Text) → Type 0
Splits text r = MatchOption r (position_or_len is_colon text ≡ length text)
    (λ x. (position_or_len is_colon text < length text) × (x.0.now ≡ before_first is_colon text) × (x.1.now ≡ after_first is_colon text))

splits_first : (text : Text) (r s : Option (Bor Text × Bor Text)) → IsSplitOnceResult 58 text r → r ≡ s → Splits text s
splits_first text r s splits is = subst (Splits text) is (split_once_first 58 text r splits (omega arith))

-- if `split_once` finds no colon, there is no range
pub range_in-uncut : (text : Text) (r : Option (Bor Text × Bor Text)) → IsSplitOnceResult 58 text r → r ≡ None → None ≡ range_in text
range_in-uncut text r splits is = sym (ap numbers_in (uncut text (splits_first text r None splits is)))

-- else the range is the numbers in the two parts
pub range_in-parts : (text : Text) (r : Option (Bor Text × Bor Text)) (first len : Bor Text) (i n : Option ℕ) → IsSplitOnceResult 58 text r
    → r ≡ Some (first, len) → i ≡ decimal_in 64 first.now → n ≡ decimal_in 64 len.now → both i n ≡ range_in text
range_in-parts text r first len i n splits is i_is n_is =
    let parts : Splits text (Some (first, len)) = splits_first text r (Some (first, len)) splits is in
    ap₂ both (i_is ∙ ap (decimal_in 64) parts.1) (n_is ∙ ap (decimal_in 64) parts.2)
    ∙ sym (ap numbers_in (slice_split_first is_colon text 0 parts.0) ∙ numbers_in-rest (before_first is_colon text) (after_first is_colon text))
