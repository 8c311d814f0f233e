-- Laws of refusals.
use Rattle.std.proofs.Common.{◌≡◌, ℕ, zero, suc, ◌+◌, ◌<◌, ◌≤◌, Bool, true, false, ltb, Some, None, List, [], ◌∷◌, length, take, drop, get_or, ℤ, refl, ap, ◌∙◌, arith}
use Rattle.std.proofs.lemmas.Bool.{and_parts}
use Rattle.std.specs.List.{list_all}
use Rattle.std.proofs.lemmas.Bool.Decides.{nat_tests}
use Rattle.aec_params.specs.declared.fault.Fault.TheVariants.{SampleRange, TooManySamples, OutOfRange}
use Rattle.aec_params.specs.declared.edit.Edit.TheVariants.{Overwrite, Append, Truncate, Insert, Remove}
use Rattle.aec_bits.specs.Codec.{Format, AreHeld}
use Rattle.aec_bits.specs.Refusals.{first_unheld, refusal_of}

-- if all numbers are samples, the search finds nothing
pub first_unheld-held : (holds : ℤ → Bool) (i : ℕ) (s : List ℤ) → list_all holds s ≡ true → first_unheld holds i s ≡ None
first_unheld-held holds i [] h = refl
first_unheld-held holds i (x ∷ s) h = let both = and_parts (holds x) (list_all holds s) h in rw both.0 (first_unheld-held holds (i + 1) s both.1)

-- if the first k numbers are samples, the search skips them
pub first_unheld-drop : (holds : ℤ → Bool) (i k : ℕ) (s : List ℤ) → k ≤ length s → list_all holds (take k s) ≡ true
    → first_unheld holds i s ≡ first_unheld holds (i + k) (drop k s)
first_unheld-drop holds i zero s within h = let e : i + 0 ≡ i = omega arith in rw e refl
first_unheld-drop holds i (suc k) [] within h = absurd (omega arith)
first_unheld-drop holds i (suc k) (x ∷ s) within h =
    let both = and_parts (holds x) (list_all holds (take k s)) h in
    let e : i + 1 + k ≡ i + suc k = omega arith in
    rw both.0 (first_unheld-drop holds (i + 1) k s (omega arith) both.1 ∙ ap (λ n. first_unheld holds n (drop k s)) e)

-- the search finds the first number that is no sample
pub first_unheld_at : (holds : ℤ → Bool) (i k : ℕ) (s : List ℤ) (d : ℤ) → k < length s → list_all holds (take k s) ≡ true → holds (get_or s k d) ≡ false
    → first_unheld holds i s ≡ Some (i + k)
first_unheld_at holds i k [] d within h bad = absurd (omega arith)
first_unheld_at holds i zero (x ∷ s) d within h bad = let e : i + 0 ≡ i = omega arith in rw (e, bad) refl
first_unheld_at holds i (suc k) (x ∷ s) d within h bad =
    let both = and_parts (holds x) (list_all holds (take k s)) h in
    let e : i + 1 + k ≡ i + suc k = omega arith in
    rw both.0 (first_unheld_at holds (i + 1) k s d (omega arith) both.1 bad ∙ ap Some e)

-- ---- edits

past : (m n : ℕ) → m < n → ltb m n ≡ true
past m n h = grind (arith, nat_tests)

not_past : (m n : ℕ) → n ≤ m → ltb m n ≡ false
not_past m n h = grind (arith, nat_tests)

pub overwrite_past : (f : Format) (limit first : ℕ) (s values : List ℤ) → length s < first + length values
    → refusal_of f limit s (Overwrite first values) ≡ Some (OutOfRange (length s))
overwrite_past f limit first s values h = rw (past (length s) (first + length values) h) refl

pub truncate_past : (f : Format) (limit count : ℕ) (s : List ℤ) → length s < count
    → refusal_of f limit s (Truncate count) ≡ Some (OutOfRange (length s))
truncate_past f limit count s h = rw (past (length s) count h) refl

pub append_past : (f : Format) (limit : ℕ) (s values : List ℤ) → limit < length s + length values
    → refusal_of f limit s (Append values) ≡ Some (TooManySamples limit)
append_past f limit s values h = rw (past limit (length s + length values) h) refl

pub overwrite_first_value : (f : Format) (limit first : ℕ) (s values : List ℤ) (i : ℕ) (d : ℤ) → first + length values ≤ length s → i < length values
    → AreHeld f (take i values) → f.holds (get_or values i d) ≡ false → refusal_of f limit s (Overwrite first values) ≡ Some (SampleRange i)
overwrite_first_value f limit first s values i d fits within held bad =
    rw (not_past (length s) (first + length values) fits, first_unheld_at f.holds 0 i values d within held bad) (let e : 0 + i ≡ i = omega arith in rw e refl)

pub append_first_value : (f : Format) (limit : ℕ) (s values : List ℤ) (i : ℕ) (d : ℤ) → length s + length values ≤ limit → i < length values
    → AreHeld f (take i values) → f.holds (get_or values i d) ≡ false → refusal_of f limit s (Append values) ≡ Some (SampleRange i)
append_first_value f limit s values i d fits within held bad =
    rw (not_past limit (length s + length values) fits, first_unheld_at f.holds 0 i values d within held bad) (let e : 0 + i ≡ i = omega arith in rw e refl)

pub overwrite_fits : (f : Format) (limit first : ℕ) (s values : List ℤ) → AreHeld f values → first + length values ≤ length s
    → refusal_of f limit s (Overwrite first values) ≡ None
overwrite_fits f limit first s values held fits = rw (not_past (length s) (first + length values) fits, first_unheld-held f.holds 0 values held) refl

pub append_fits : (f : Format) (limit : ℕ) (s values : List ℤ) → AreHeld f values → length s + length values ≤ limit
    → refusal_of f limit s (Append values) ≡ None
append_fits f limit s values held fits = rw (not_past limit (length s + length values) fits, first_unheld-held f.holds 0 values held) refl

pub truncate_fits : (f : Format) (limit count : ℕ) (s : List ℤ) → count ≤ length s → refusal_of f limit s (Truncate count) ≡ None
truncate_fits f limit count s fits = rw (not_past (length s) count fits) refl

pub insert_past : (f : Format) (limit first : ℕ) (s values : List ℤ) → length s < first
    → refusal_of f limit s (Insert first values) ≡ Some (OutOfRange (length s))
insert_past f limit first s values h = rw (past (length s) first h) refl

pub remove_past : (f : Format) (limit first len : ℕ) (s : List ℤ) → length s < first + len
    → refusal_of f limit s (Remove first len) ≡ Some (OutOfRange (length s))
remove_past f limit first len s h = rw (past (length s) (first + len) h) refl

pub insert_past_limit : (f : Format) (limit first : ℕ) (s values : List ℤ) → first ≤ length s → limit < length s + length values
    → refusal_of f limit s (Insert first values) ≡ Some (TooManySamples limit)
insert_past_limit f limit first s values within h = rw (not_past (length s) first within, past limit (length s + length values) h) refl

pub insert_first_value : (f : Format) (limit first : ℕ) (s values : List ℤ) (i : ℕ) (d : ℤ) → first ≤ length s → length s + length values ≤ limit
    → i < length values → AreHeld f (take i values) → f.holds (get_or values i d) ≡ false
    → refusal_of f limit s (Insert first values) ≡ Some (SampleRange i)
insert_first_value f limit first s values i d inside fits within held bad =
    rw (not_past (length s) first inside) (append_first_value f limit s values i d fits within held bad)

pub insert_fits : (f : Format) (limit first : ℕ) (s values : List ℤ) → AreHeld f values → first ≤ length s → length s + length values ≤ limit
    → refusal_of f limit s (Insert first values) ≡ None
insert_fits f limit first s values held within fits =
    rw (not_past (length s) first within) (append_fits f limit s values held fits)

pub remove_fits : (f : Format) (limit first len : ℕ) (s : List ℤ) → first + len ≤ length s → refusal_of f limit s (Remove first len) ≡ None
remove_fits f limit first len s fits = rw (not_past (length s) (first + len) fits) refl
