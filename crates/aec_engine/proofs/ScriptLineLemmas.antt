-- How the lines of scripts are read.
use Rattle.std.proofs.Common.{◌≡◌, ◌≢◌, ap, sym, ◌∙◌, true, false, List, [], ◌∷◌, ◌++◌, ℕ, ℤ, refl, Some, None, Option, append_assoc, is_some, ◌<◌, ◌+◌, ◌==◌, length, take, drop, get_or, arith, inl, inr, length-append}
use Rattle.std.specs.Prelude.{option_map, option_and_then}
use Rattle.std.specs.List.{position_or_len}
use Rattle.std.proofs.lemmas.List.Elements.{All-from_get_or}
use Rattle.std.proofs.lemmas.List.Sums.{position_or_len_is}
use Rattle.std.proofs.lemmas.List.Splits.{slice_split_first, slice_split_none}
use Rattle.aec_params.specs.declared.edit.Edit.{Edit}
use Rattle.aec_params.specs.declared.fault.Fault.{Fault}
use Rattle.aec_engine.specs.Numerals.{Text}
use Rattle.aec_engine.specs.Scripts.{value_in, values_in, Meaning, nothing, change, unknown, Listing, listed}
use Rattle.aec_engine.specs.ScriptLines.{after_values, lines_of, after_listed, RefusesLine, RefusesListing}

-- one more value is read: it comes after those before it
pub values_in-next : (all : Option (List ℤ)) (old new : List ℤ) (word : Text) (words : List Text) (x : ℤ)
    → all ≡ after_values old (values_in (word ∷ words)) → is_some (values_in (word ∷ words)) ≡ true → value_in word ≡ Some x → new ≡ old ++ x ∷ []
    → (all ≡ after_values new (values_in words)) × (is_some (values_in words) ≡ true)
values_in-next all old new word words x before some value is = by_rest (values_in words) refl
  where
    this : values_in (word ∷ words) ≡ option_map (λ xs. x ∷ xs) (values_in words)
    this = ap (λ v. option_and_then (λ x. option_map (λ xs. x ∷ xs) (values_in words)) v) value

    by_rest : (rest : Option (List ℤ)) → values_in words ≡ rest → (all ≡ after_values new (values_in words)) × (is_some (values_in words) ≡ true)
    by_rest None none =
        let whole : values_in (word ∷ words) ≡ None = this ∙ ap (option_map (λ xs. x ∷ xs)) none in
        let lacks : false ≡ true = sym (ap is_some whole) ∙ some in
        absurd (cc)
    by_rest (Some xs) others =
        let whole : values_in (word ∷ words) ≡ Some (x ∷ xs) = this ∙ ap (option_map (λ xs. x ∷ xs)) others in (
          before ∙ (ap (after_values old) whole
              ∙ (ap Some (sym (append_assoc old (x ∷ []) xs) ∙ ap (λ front. front ++ xs) (sym is)) ∙ ap (after_values new) (sym others))),
          ap is_some others,
        )

-- ---- lines

-- the first line of a text ends before its first line feed, and the others come after it
pub lines_of-first : (text : Text) (i : ℕ) → i < length text → ((k : ℕ) → k < i → (get_or text k 0 == 10) ≡ false) → (get_or text i 0 == 10) ≡ true
    → lines_of text ≡ take i text ∷ lines_of (drop (i + 1) text)
lines_of-first text i within before here =
    let place : position_or_len (λ byte. byte == 10) text ≡ i = position_or_len_is _ text i 0 (omega arith) before (λ _. here) in
    let inside : position_or_len (λ byte. byte == 10) text < length text = omega arith in
    slice_split_first (λ byte. byte == 10) text 0 inside ∙ ap (λ n. take n text ∷ lines_of (drop (n + 1) text)) place

-- a text without a line feed is one line
pub lines_of-one : (text : Text) → ((k : ℕ) → k < length text → (get_or text k 0 == 10) ≡ false) → lines_of text ≡ text ∷ []
lines_of-one text none = slice_split_none (λ byte. byte == 10) text (All-from_get_or (λ byte. (byte == 10) ≡ false) text 0 none)

-- a line that is refused is refused in the listing of the whole script
pub refused_line : (m : Meaning) (n : ℕ) (e : Fault) (edits : List Edit) (lines : List ℕ)
    → RefusesLine m n e → (rest : Listing) → RefusesListing (after_listed edits lines (listed n m rest)) n e
refused_line unknown n e edits lines (inl (is, fault)) rest = inl (refl, fault)
refused_line nothing n e edits lines (inl (is, fault)) rest = absurd (cc)
refused_line (change x) n e edits lines (inl (is, fault)) rest = absurd (cc)
refused_line unknown n e edits lines (inr (memory, (some, known))) rest = absurd (known refl)
refused_line nothing n e edits lines (inr (memory, (some, known))) rest = absurd (some refl)
refused_line (change x) n e edits lines (inr (memory, (some, known))) rest = inr (memory, omega (arith, length-append edits (x ∷ rest.edits)))

-- a line that is an edit or says nothing doesn't change the first bad line of a listing
pub listed_known : (n : ℕ) (m : Meaning) (rest : Listing) → m ≢ unknown → (listed n m rest).bad ≡ rest.bad
listed_known n nothing rest known = refl
listed_known n (change e) rest known = refl
listed_known n unknown rest known = absurd (known refl)

-- if a line and those after it have no bad line, those after it have none
pub listed_sound : (n : ℕ) (m : Meaning) (rest : Listing) → (listed n m rest).bad ≡ None → rest.bad ≡ None
listed_sound n nothing rest sound = sound
listed_sound n (change e) rest sound = sound
listed_sound n unknown rest sound = absurd (cc)
