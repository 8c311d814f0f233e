-- Tables: the values of a function in order.
use Rattle.std.proofs.Common.{◌≡◌, ℕ, zero, suc, ◌+◌, ◌<◌, List, [], ◌∷◌, ap, ◌∙◌, arith}
use Rattle.std.specs.Prelude.{slice_index_or}

-- the values of f for `count` numbers from `first` on
abbrev pub listed_from : {A : Type 0} → (ℕ → A) → ℕ → ℕ → List A
listed_from f first zero = []
listed_from f first (suc count) = f first ∷ listed_from f (suc first) count

pub at_place-listed_from : {A : Type 0} (f : ℕ → A) (other : A) (first count i : ℕ) → i < count
    → slice_index_or (listed_from f first count) i other ≡ f (first + i)
at_place-listed_from f other first zero i within = absurd (omega arith)
at_place-listed_from f other first (suc count) zero within = let e : first ≡ first + 0 = omega arith in ap f e
at_place-listed_from f other first (suc count) (suc i) within =
    let e : suc first + i ≡ first + suc i = omega arith in
    at_place-listed_from f other (suc first) count i (omega arith) ∙ ap f e
