-- Lists in which a stretch was overwritten, and what they contain from a place on.
use Rattle.std.proofs.Common.{◌≡◌, ℕ, suc, ◌+◌, ◌≤◌, Bool, List, [], ◌∷◌, ◌++◌, length, take, drop, refl, sym, ap, ◌∙◌, arith, append_assoc}
use Rattle.std.proofs.lemmas.List.{take_at, drop_at, take-append-le, drop-append-le, length-take-le, drop-drop}

-- a list in which others replace the n elements from place `at` on
abbrev pub overwritten : ℕ → ℕ → List Bool → List Bool → List Bool
overwritten at n new bits = take at bits ++ (new ++ drop (at + n) bits)

-- the list from m places after its first part on
pub drop-append-add : (xs ys : List Bool) (n m : ℕ) → length xs ≡ n → drop (n + m) (xs ++ ys) ≡ drop m ys
drop-append-add xs ys n m long = sym (drop-drop m n (xs ++ ys)) ∙ ap (drop m) (drop_at xs ys n long)

pub take-append-add : (xs ys : List Bool) (n m : ℕ) → length xs ≡ n → take (n + m) (xs ++ ys) ≡ xs ++ take m ys
take-append-add [] ys n m long = let e : n + m ≡ m = omega arith in ap (λ (k : ℕ). take k ys) e
take-append-add (x ∷ xs) ys n m long =
    let e : n + m ≡ suc (length xs + m) = omega arith in
    ap (λ (k : ℕ). take k (x ∷ (xs ++ ys))) e ∙ ap (λ (l : List Bool). x ∷ l) (take-append-add xs ys (length xs) m refl)

-- the bits after the first part of a list's rest are the list from n places later on
pub rest_after : (bits first rest : List Bool) (start n : ℕ) → length first ≡ n → drop start bits ≡ first ++ rest
    → drop start bits ≡ first ++ drop (start + n) bits
rest_after bits first rest start n long stands =
    let e : drop (start + n) bits ≡ rest = sym (drop-drop n start bits) ∙ ap (drop n) stands ∙ drop_at first rest n long in
    stands ∙ ap (λ (l : List Bool). first ++ l) (sym e)

-- the list up to the end of the overwritten stretch
pub take-overwritten : (bits new : List Bool) (at n : ℕ) → length new ≡ n → at ≤ length bits → take (at + n) (overwritten at n new bits) ≡ take at bits ++ new
take-overwritten bits new at n long within =
    take-append-add (take at bits) (new ++ drop (at + n) bits) at n (length-take-le at bits within)
    ∙ ap (λ (l : List Bool). take at bits ++ l) (take_at new (drop (at + n) bits) n long)

-- the list after the overwritten stretch is unchanged
pub drop-overwritten : (bits new : List Bool) (at n m : ℕ) → length new ≡ n → at ≤ length bits
    → drop (at + n + m) (overwritten at n new bits) ≡ drop (at + n + m) bits
drop-overwritten bits new at n m long within =
    let e : at + n + m ≡ at + (n + m) = omega arith in
    ap (λ (k : ℕ). drop k (overwritten at n new bits)) e
    ∙ drop-append-add (take at bits) (new ++ drop (at + n) bits) at (n + m) (length-take-le at bits within)
    ∙ drop-append-add new (drop (at + n) bits) n m long
    ∙ drop-drop m (at + n) bits

-- two adjacent overwritten stretches are one stretch
pub overwritten-overwritten : (bits xs ys : List Bool) (at n m : ℕ) → length xs ≡ n → at ≤ length bits
    → overwritten (at + n) m ys (overwritten at n xs bits) ≡ overwritten at (n + m) (xs ++ ys) bits
overwritten-overwritten bits xs ys at n m long within =
    let e : at + n + m ≡ at + (n + m) = omega arith in
    ap (λ (l : List Bool). l ++ (ys ++ drop (at + n + m) (overwritten at n xs bits))) (take-overwritten bits xs at n long within)
    ∙ ap (λ (l : List Bool). (take at bits ++ xs) ++ (ys ++ l)) (drop-overwritten bits xs at n m long within)
    ∙ append_assoc (take at bits) xs (ys ++ drop (at + n + m) bits)
    ∙ ap (λ (l : List Bool). take at bits ++ l) (sym (append_assoc xs ys (drop (at + n + m) bits)))
    ∙ ap (λ (k : ℕ). take at bits ++ ((xs ++ ys) ++ drop k bits)) e

-- a stretch overwritten within the middle of three parts
pub overwritten_inside : (front middle rest new : List Bool) (at n m : ℕ) → length front ≡ m → at + n ≤ length middle
    → front ++ (overwritten at n new middle ++ rest) ≡ overwritten (m + at) n new (front ++ (middle ++ rest))
overwritten_inside front middle rest new at n m long within =
    let e : m + at + n ≡ m + (at + n) = omega arith in
    let before : take (m + at) (front ++ (middle ++ rest)) ≡ front ++ take at middle
    = take-append-add front (middle ++ rest) m at long ∙ ap (λ (l : List Bool). front ++ l) (take-append-le at middle rest (omega arith)) in
    let behind : drop (m + at + n) (front ++ (middle ++ rest)) ≡ drop (at + n) middle ++ rest
    = ap (λ (k : ℕ). drop k (front ++ (middle ++ rest))) e ∙ drop-append-add front (middle ++ rest) m (at + n) long
    ∙ drop-append-le (at + n) middle rest within in
    ap (λ (l : List Bool). front ++ l) (append_assoc (take at middle) (new ++ drop (at + n) middle) rest
    ∙ ap (λ (l : List Bool). take at middle ++ l) (append_assoc new (drop (at + n) middle) rest))
    ∙ sym (append_assoc front (take at middle) (new ++ (drop (at + n) middle ++ rest)))
    ∙ ap (λ (l : List Bool). l ++ (new ++ (drop (at + n) middle ++ rest))) (sym before)
    ∙ ap (λ (l : List Bool). take (m + at) (front ++ (middle ++ rest)) ++ (new ++ l)) (sym behind)
