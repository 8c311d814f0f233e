-- Parts of held lists are held, and joined held lists are held.
use Rattle.std.proofs.Common.{◌≡◌, ℕ, zero, suc, ◌+◌, Bool, true, false, ◌&&◌, cond, Some, None, List, [], ◌∷◌, ◌++◌, take, drop, ℤ, refl}
use Rattle.std.specs.List.{list_all}
use Rattle.std.proofs.lemmas.Bool.{and_parts}
use Rattle.aec_bits.specs.Refusals.{first_unheld}

pub held-take : (holds : ℤ → Bool) (n : ℕ) (s : List ℤ) → list_all holds s ≡ true → list_all holds (take n s) ≡ true
held-take holds zero s held = refl
held-take holds (suc n) [] held = refl
held-take holds (suc n) (x ∷ s) held =
    let both = and_parts (holds x) (list_all holds s) held in
    rw (both.0, held-take holds n s both.1) refl

pub held-drop : (holds : ℤ → Bool) (n : ℕ) (s : List ℤ) → list_all holds s ≡ true → list_all holds (drop n s) ≡ true
held-drop holds zero s held = held
held-drop holds (suc n) [] held = refl
held-drop holds (suc n) (x ∷ s) held = held-drop holds n s (and_parts (holds x) (list_all holds s) held).1

pub held-append : (holds : ℤ → Bool) (s t : List ℤ) → list_all holds s ≡ true → list_all holds t ≡ true → list_all holds (s ++ t) ≡ true
held-append holds [] t held kept = kept
held-append holds (x ∷ s) t held kept =
    let both = and_parts (holds x) (list_all holds s) held in
    rw (both.0, held-append holds s t both.1 kept) refl

-- if none is found that isn't held, all are held
pub held-from_none : (holds : ℤ → Bool) (i : ℕ) (s : List ℤ) → first_unheld holds i s ≡ None → list_all holds s ≡ true
held-from_none holds i [] none = refl
held-from_none holds i (x ∷ s) none = by_test (holds x) none (held-from_none holds (i + 1) s)
  where
    by_test : (t : Bool) → cond t (first_unheld holds (i + 1) s) (Some i) ≡ None → (first_unheld holds (i + 1) s ≡ None → list_all holds s ≡ true)
        → t && list_all holds s ≡ true
    by_test true e later = later e
    by_test false e later = absurd (cc)

-- if all are held, none is found that isn't
pub none-from_held : (holds : ℤ → Bool) (i : ℕ) (s : List ℤ) → list_all holds s ≡ true → first_unheld holds i s ≡ None
none-from_held holds i [] held = refl
none-from_held holds i (x ∷ s) held =
    let both = and_parts (holds x) (list_all holds s) held in
    rw both.0 (none-from_held holds (i + 1) s both.1)
