-- Small lemmas about lists, used by the proofs of the format's laws.
use Rattle.std.proofs.Common.{◌≡◌, ℕ, zero, suc, Bool, true, false, ◌&&◌, List, [], ◌∷◌, ◌++◌, length, replicate, refl, arith}
use Rattle.std.specs.List.{AllByRecursion, list_all}

pub same_head : {X : Type 0} {a b : X} {x y : List X} → a ∷ x ≡ b ∷ y → a ≡ b
same_head e = cc

pub same_tail : {X : Type 0} {a b : X} {x y : List X} → a ∷ x ≡ b ∷ y → x ≡ y
same_tail e = cc

pub both_true : (a b : Bool) → a && b ≡ true → (a ≡ true) × (b ≡ true)
both_true true b e = (refl, e)
both_true false b e = absurd (cc)

pub each_passes : {X : Type 0} (test : X → Bool) (xs : List X) → list_all test xs ≡ true → AllByRecursion (λ x. test x ≡ true) xs
each_passes test [] e = tt
each_passes test (x ∷ xs) e = let h = both_true (test x) (list_all test xs) e in (h.0, each_passes test xs h.1)

pub append_apart : {X : Type 0} (a b x y : List X) → length a ≡ length b → a ++ x ≡ b ++ y → (a ≡ b) × (x ≡ y)
append_apart [] [] x y l e = (refl, e)
append_apart [] (q ∷ b) x y l e = absurd (omega arith)
append_apart (p ∷ a) [] x y l e = absurd (omega arith)
append_apart (p ∷ a) (q ∷ b) x y l e =
    let r = append_apart a b x y (omega arith) (same_tail e) in
    let h : p ≡ q = same_head e in
    (cc, r.1)

pub all-append : {X : Type 0} (P : X → Type 0) (xs ys : List X) → AllByRecursion P xs → AllByRecursion P ys → AllByRecursion P (xs ++ ys)
all-append P [] ys h k = k
all-append P (x ∷ xs) ys h k = (h.0, all-append P xs ys h.1 k)

pub all-front : {X : Type 0} (P : X → Type 0) (xs ys : List X) → AllByRecursion P (xs ++ ys) → AllByRecursion P xs
all-front P [] ys h = tt
all-front P (x ∷ xs) ys h = (h.0, all-front P xs ys h.1)

pub all-back : {X : Type 0} (P : X → Type 0) (xs ys : List X) → AllByRecursion P (xs ++ ys) → AllByRecursion P ys
all-back P [] ys h = h
all-back P (x ∷ xs) ys h = all-back P xs ys h.1

pub all-replicate : {X : Type 0} (P : X → Type 0) (n : ℕ) (x : X) → P x → AllByRecursion P (replicate n x)
all-replicate P zero x h = tt
all-replicate P (suc n) x h = (h, all-replicate P n x h)
