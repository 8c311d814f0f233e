-- Pieces of samples that a loop takes, the last sample of each, and bits that stay the same.
use Rattle.std.proofs.Common.{◌≡◌, ℕ, ◌-◌, ◌<◌, ◌≤◌, min, Bool, Option, Some, ℤ, List, [], ◌∷◌, ◌++◌, length, sym, ap, ◌∙◌, arith}
use Rattle.std.specs.Prelude.{slice_get}
use Rattle.std.specs.List.{AllByRecursion, last_or}
use Rattle.std.proofs.lemmas.List.{length-append, length-take, take-append-le, take-append-drop, nil_from_length}
use Rattle.aec_params.specs.declared.settings.Settings.{Settings}
use Rattle.aec_params.specs.Params.{IsHeld}
use Rattle.aec_interval.specs.Chunks.{HoldsPrevious}
use Rattle.aec_interval.specs.Pending.{IsKept}
use Rattle.aec_interval.proofs.CuttingLemmas.{IsPieceBefore}
use Rattle.aec_interval.proofs.FillingLemmas.{last_or-some}

-- ---- pieces

pub nothing_left : {X : Type 0} (xs : List X) → length xs ≡ 0 → xs ≡ []
nothing_left xs h = nil_from_length xs h

-- a loop over pieces of n takes a piece each time
pub piece_taken : {X : Type 0} (n : ℕ) (whole front rest : List X) → 0 < n → whole ≡ front ++ rest → length front ≡ min n (length whole)
    → 0 < length whole → IsPieceBefore n front rest
piece_taken n whole front rest h e len some =
    let sum = ap length e ∙ length-append front rest in
    record { some = omega arith; fits = omega arith; full = λ more. omega arith }

pub last_taken : (o : Option ℤ) (xs : List ℤ) → 0 < length xs → slice_get xs (length xs - 1) ≡ last_or o xs
last_taken o [] h = absurd (omega arith)
last_taken o (x ∷ xs) h = ap (slice_get (x ∷ xs)) (omega arith) ∙ sym (last_or-some o x xs)

pub holds_last : (s : Settings) (o : Option ℤ) (xs : List ℤ) → HoldsPrevious s o → AllByRecursion (IsHeld s) xs → HoldsPrevious s (last_or o xs)
holds_last s o [] h k = h
holds_last s o (x ∷ xs) h k = holds_last s (Some x) xs k.0 k.1

pub kept-trans : (a b c : List Bool) → IsKept a b → IsKept b c → IsKept a c
kept-trans a b c h k =
    let shorter : length a ≤ length b = grind (arith, length-take) in
    rw (← (take-append-drop (length b) c), k, take-append-le) h
