-- Each number is the number of exactly one pair.
use Rattle.std.proofs.Common.{◌≡◌, ℕ, zero, suc, ◌+◌, ◌*◌, ◌/◌, ◌<◌, ◌≤◌, refl, ap, sym, ◌∙◌, arith, ⊎_elim, ◌⊎◌}
use Rattle.std.proofs.lemmas.Bool.{cases_order}
use Rattle.std.proofs.Math.Nat.{mul-div_cancel}
use Rattle.aec_params.specs.CodedDataSets.{pair_number}

-- the number of pairs whose sum is below s
abbrev triangle : ℕ → ℕ
triangle zero = 0
triangle (suc s) = triangle s + suc s

triangle-twice : (s : ℕ) → triangle s * 2 ≡ s * (s + 1)
triangle-twice zero = refl
triangle-twice (suc s) = let h = triangle-twice s in omega arith

pub pair_number-triangle : (a b : ℕ) → pair_number a b ≡ triangle (a + b) + b
pair_number-triangle a b = ap (λ (t : ℕ). t / 2 + b) (sym (triangle-twice (a + b))) ∙ ap (λ (t : ℕ). t + b) (mul-div_cancel (triangle (a + b)) (omega arith))

top_or_below : (s t : ℕ) → s ≤ suc t → (s ≤ t) ⊎ (s ≡ suc t)
top_or_below s t h = grind arith

triangle-le : (s t : ℕ) → s ≤ t → triangle s ≤ triangle t
triangle-le s zero h = let e : s ≡ 0 = omega arith in rw e (omega arith)
triangle-le s (suc t) h =
    ⊎_elim (λ (l : s ≤ t). let k = triangle-le s t l in omega arith)
    (λ (e : s ≡ suc t). omega (arith, ap triangle e))
    (top_or_below s t h)

triangle-lt : (s t b d : ℕ) → b ≤ s → s < t → triangle s + b < triangle t + d
triangle-lt s t b d h l = let k = triangle-le (suc s) t (omega arith) in omega arith

same_sum : (s t b d : ℕ) → b ≤ s → d ≤ t → triangle s + b ≡ triangle t + d → s ≡ t
same_sum s t b d h k e =
    ⊎_elim (λ (q : s ≡ t). q)
    (⊎_elim (λ (l : s < t). absurd (let g = triangle-lt s t b d h l in omega arith))
    (λ (l : t < s). absurd (let g = triangle-lt t s d b k l in omega arith)))
    (cases_order s t)

pub pair_number-one_to_one : (a b c d : ℕ) → pair_number a b ≡ pair_number c d → (a ≡ c) × (b ≡ d)
pair_number-one_to_one a b c d e =
    let f : triangle (a + b) + b ≡ triangle (c + d) + d = sym (pair_number-triangle a b) ∙ (e ∙ pair_number-triangle c d) in
    let g : a + b ≡ c + d = same_sum (a + b) (c + d) b d (omega arith) (omega arith) f in
    let h = ap triangle g in
    (omega arith, omega arith)

-- a pair with the number after that of (a, b)
next_pair : (a b m : ℕ) → triangle (a + b) + b ≡ m → (c : ℕ) × (d : ℕ) × (triangle (c + d) + d ≡ suc m)
next_pair zero b m e =
    let p : suc b + 0 ≡ suc b = omega arith in
    let q : 0 + b ≡ b = omega arith in
    (suc b, zero, omega (arith, ap triangle p, ap triangle q))
next_pair (suc a) b m e =
    let p : a + suc b ≡ suc a + b = omega arith in
    (a, suc b, omega (arith, ap triangle p))

triangle-onto : (m : ℕ) → (a : ℕ) × (b : ℕ) × (triangle (a + b) + b ≡ m)
triangle-onto zero = (zero, zero, refl)
triangle-onto (suc m) = let p = triangle-onto m in next_pair p.0 p.1 m p.2

pub pair_number-onto : (m : ℕ) → (a : ℕ) × (b : ℕ) × (pair_number a b ≡ m)
pair_number-onto m = let p = triangle-onto m in (p.0, p.1, pair_number-triangle p.0 p.1 ∙ p.2)
