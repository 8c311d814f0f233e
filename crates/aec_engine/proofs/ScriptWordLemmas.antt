-- How the words of a line are cut off, one after the other.
use Rattle.std.proofs.Common.{◌≡◌, ap, sym, ◌∙◌, subst, Bool, true, false, List, [], ◌∷◌, ℕ, suc, ◌<◌, length, take, drop, refl, slice_index, arith}
use Rattle.std.specs.Prelude.{filter}
use Rattle.std.specs.List.{slice_split, onto_first, position_or_len}
use Rattle.std.proofs.lemmas.List.Splits.{slice_split-cons_no}
use Rattle.aec_engine.specs.Numerals.{Text}
use Rattle.aec_engine.specs.Scripts.{is_blank, is_word, words_of}

-- a blank at the front is in no word
pub words_of-blank : (x : ℕ) (line : Text) → is_blank x ≡ true → words_of (x ∷ line) ≡ words_of line
words_of-blank x line e = rw e refl

-- the first part of a line; the words in the later parts are the words of the rest
record FirstPart (line : Text) : Type 0 where
  later : List Text
  cut : slice_split is_blank line ≡ take (position_or_len is_blank line) line ∷ later
  rest : filter is_word later ≡ words_of (drop (position_or_len is_blank line) line)

-- a byte that is no blank is before the first blank
place-letter : (x : ℕ) (line : Text) → is_blank x ≡ false → position_or_len is_blank (x ∷ line) ≡ suc (position_or_len is_blank line)
place-letter x line e = rw e (omega arith)

after_letter : (x : ℕ) (line : Text) → is_blank x ≡ false → FirstPart line → FirstPart (x ∷ line)
after_letter x line e first =
    let place = place-letter x line e in
    record {
      later = first.later;
      cut = slice_split-cons_no is_blank x line e
          ∙ (ap (onto_first x) first.cut ∙ ap (λ n. take n (x ∷ line) ∷ first.later) (sym place));
      rest = first.rest ∙ ap (λ n. words_of (drop n (x ∷ line))) (sym place);
    }

first_part : (line : Text) → FirstPart line
first_part [] = record { later = []; cut = refl; rest = refl }
first_part (x ∷ line) = by_blank (first_part line) (is_blank x) refl
  where
    by_blank : FirstPart line → (t : Bool) → is_blank x ≡ t → FirstPart (x ∷ line)
    by_blank first true e = record {
      later = slice_split is_blank line;
      cut = rw e refl;
      rest = rw e (sym (words_of-blank x line e));
    }
    by_blank first false e = after_letter x line e first

-- if a line begins with a word, the word ends before the first blank
pub words_of-first : (line : Text) → 0 < length line → is_blank (slice_index line 0) ≡ false
    → words_of line ≡ take (position_or_len is_blank line) line ∷ words_of (drop (position_or_len is_blank line) line)
words_of-first [] some word = absurd (omega arith)
words_of-first (x ∷ line) some word =
    let first = first_part (x ∷ line) in
    let IsKept : ℕ → Type 0 = λ n. filter is_word (take n (x ∷ line) ∷ first.later) ≡ take n (x ∷ line) ∷ filter is_word first.later in
    ap (filter is_word) first.cut
    ∙ (subst IsKept (sym (place-letter x line word)) refl
    ∙ ap (λ words. take (position_or_len is_blank (x ∷ line)) (x ∷ line) ∷ words) first.rest)
