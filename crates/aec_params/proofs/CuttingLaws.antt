-- The pieces of a list join to the list, have known lengths, and are the only lists cut this way.
use Rattle.std.proofs.Common.{◌≡◌, ℕ, zero, suc, ◌+◌, ◌-◌, ◌/◌, ◌%◌, ◌<◌, ◌≤◌, List, [], ◌∷◌, ◌++◌, length, take, drop, refl, ap, sym, ◌∙◌, subst, arith, ⊎_elim, append_assoc, length-append}
use Rattle.std.specs.Int.{div_ceil}
use Rattle.std.specs.List.{flat_map, AllByRecursion}
use Rattle.std.proofs.lemmas.Bool.{cases_lt}
use Rattle.std.proofs.lemmas.List.{take-append-drop, length-take, length-drop, take_all, drop_all, take_at, drop_at, append-nil}
use Rattle.std.proofs.Math.Nat.{div-eq-sub-div, mod-eq-sub-mod, div-eq_of_lt, mod-eq_of_lt}
use Rattle.aec_params.specs.Cutting.{pieces_of}
use Rattle.aec_params.specs.Laws.{AreCut}

-- ---- one piece at a time

pub div_ceil-zero : (n : ℕ) → 0 < n → div_ceil 0 n ≡ 0
div_ceil-zero n h = let q : 0 / n ≡ 0 = div-eq_of_lt h in let r : 0 % n ≡ 0 = mod-eq_of_lt h in rw (q, r) refl

-- m > 0 places have one piece more than the m - n places after the first piece
pub div_ceil-step : (m n : ℕ) → 0 < n → 0 < m → div_ceil m n ≡ suc (div_ceil (m - n) n)
div_ceil-step m n h l = ⊎_elim (short m n h l) (long m n h) (cases_lt m n)
  where
    short : (m n : ℕ) → 0 < n → 0 < m → m < n → div_ceil m n ≡ suc (div_ceil (m - n) n)
    short m n h l k =
        let e : m - n ≡ 0 = omega arith in
        let q : m / n ≡ 0 = div-eq_of_lt k in
        let r : m % n ≡ m = mod-eq_of_lt k in
        let z = div_ceil-zero n h in
        rw (e, z, q, r) (omega arith)

    long : (m n : ℕ) → 0 < n → n ≤ m → div_ceil m n ≡ suc (div_ceil (m - n) n)
    long m n h k =
        let q : m / n ≡ (m - n) / n + 1 = div-eq-sub-div h k in
        let r : m % n ≡ (m - n) % n = mod-eq-sub-mod k in
        rw (q, r) (omega arith)

pub pieces_of-nil : {X : Type 0} (n : ℕ) → 0 < n → pieces_of {X = X} n [] ≡ []
pieces_of-nil n h = rw (div_ceil-zero n h) refl

pub pieces_of-step : {X : Type 0} (n : ℕ) (xs : List X) → 0 < n → 0 < length xs → pieces_of n xs ≡ take n xs ∷ pieces_of n (drop n xs)
pieces_of-step n xs h l = rw (div_ceil-step (length xs) n h l, length-drop n xs) refl

-- a property that holds for no pieces, and stays true with a piece in front, holds for all
pub by_pieces : {X : Type 0} (n : ℕ) (P : List X → List (List X) → Type 0) → 0 < n → P [] []
    → ((xs : List X) → 0 < length xs → P (drop n xs) (pieces_of n (drop n xs)) → P xs (take n xs ∷ pieces_of n (drop n xs)))
    → (xs : List X) → P xs (pieces_of n xs)
by_pieces {X} n P h none more xs = up_to (length xs) xs (omega arith)
  where
    up_to : (m : ℕ) (xs : List X) → length xs ≤ m → P xs (pieces_of n xs)
    up_to m [] l = subst (λ (ps : List (List X)). P [] ps) (sym (pieces_of-nil n h)) none
    up_to zero (x ∷ xs) l = absurd (omega arith)
    up_to (suc m) (x ∷ xs) l =
        subst (λ (ps : List (List X)). P (x ∷ xs) ps) (sym (pieces_of-step n (x ∷ xs) h (omega arith)))
        (more (x ∷ xs) (omega arith) (up_to m (drop n (x ∷ xs)) (simp length-drop (omega arith))))

-- ---- what pieces are

pub join-pieces_of : {X : Type 0} (n : ℕ) (xs : List X) → 0 < n → flat_map (λ (p : List X). p) (pieces_of n xs) ≡ xs
join-pieces_of {X} n xs h =
    by_pieces n (λ (xs : List X) (ps : List (List X)). flat_map (λ (p : List X). p) ps ≡ xs) h refl
    (λ xs l e. ap (λ (t : List X). take n xs ++ t) e ∙ take-append-drop n xs) xs

pub length-pieces_of : {X : Type 0} (n : ℕ) (xs : List X) → 0 < n → length (pieces_of n xs) ≡ div_ceil (length xs) n
length-pieces_of {X} n xs h =
    by_pieces n (λ (xs : List X) (ps : List (List X)). length ps ≡ div_ceil (length xs) n) h (sym (div_ceil-zero n h))
    (λ xs l e. ap suc e ∙ (rw length-drop (sym (div_ceil-step (length xs) n h l)))) xs

AreCut-cons : {X : Type 0} (n : ℕ) (p : List X) (ps : List (List X)) → AreCut n ps → 0 < length p → length p ≤ n
    → (0 < length ps → length p ≡ n) → AreCut n (p ∷ ps)
AreCut-cons n p [] cut h l whole = (h, l)
AreCut-cons n p (q ∷ ps) cut h l whole = (whole (omega arith), cut)

no_more_pieces : {X : Type 0} (n : ℕ) (xs : List X) → 0 < n → length xs ≤ n → length (pieces_of n (drop n xs)) ≡ 0
no_more_pieces {X} n xs h l = ap (λ (t : List X). length (pieces_of n t)) (drop_all n xs l) ∙ (length-pieces_of {X = X} n [] h ∙ div_ceil-zero n h)

pub AreCut-pieces_of : {X : Type 0} (n : ℕ) (xs : List X) → 0 < n → AreCut n (pieces_of n xs)
AreCut-pieces_of {X} n xs h = by_pieces n (λ (xs : List X) (ps : List (List X)). AreCut n ps) h tt more xs
  where
    whole : (xs : List X) → 0 < length (pieces_of n (drop n xs)) → length (take n xs) ≡ n
    whole xs k = ⊎_elim (λ (l : n < length xs). simp length-take (omega arith))
        (λ (l : length xs ≤ n). absurd (omega (arith, no_more_pieces n xs h l))) (cases_lt n (length xs))

    more : (xs : List X) → 0 < length xs → AreCut n (pieces_of n (drop n xs)) → AreCut n (take n xs ∷ pieces_of n (drop n xs))
    more xs l cut = AreCut-cons n (take n xs) (pieces_of n (drop n xs)) cut (simp length-take (omega arith)) (simp length-take (omega arith)) (whole xs)

-- a whole piece before a list is the first piece
pub pieces_of-append : {X : Type 0} (n : ℕ) (p xs : List X) → 0 < n → length p ≡ n → pieces_of n (p ++ xs) ≡ p ∷ pieces_of n xs
pieces_of-append n p xs h e =
    let l : 0 < length (p ++ xs) = simp length-append (omega arith) in
    pieces_of-step n (p ++ xs) h l ∙ rw (take_at p xs n e, drop_at p xs n e) refl

-- whole pieces before a list are the first pieces
pub pieces_of-join : {X : Type 0} (n : ℕ) (ps : List (List X)) (xs : List X) → 0 < n → AllByRecursion (λ (p : List X). length p ≡ n) ps
    → pieces_of n (flat_map (λ (p : List X). p) ps ++ xs) ≡ ps ++ pieces_of n xs
pieces_of-join n [] xs h all = refl
pieces_of-join {X} n (p ∷ ps) xs h all =
    ap (pieces_of n) (append_assoc p (flat_map (λ (p : List X). p) ps) xs)
    ∙ (pieces_of-append n p (flat_map (λ (p : List X). p) ps ++ xs) h all.0 ∙ ap (λ (t : List (List X)). p ∷ t) (pieces_of-join n ps xs h all.1))

-- a list of 1 to n members is one piece
pub pieces_of-one : {X : Type 0} (n : ℕ) (p : List X) → 0 < length p → length p ≤ n → pieces_of n p ≡ p ∷ []
pieces_of-one {X} n p h l =
    let z : 0 < n = omega arith in
    let none = pieces_of-nil {X = X} n z in
    pieces_of-step n p z h ∙ rw (take_all n p l, drop_all n p l, none) refl

-- lists that are cut this way are the pieces of the list that they join to
pub pieces_of-unique : {X : Type 0} (n : ℕ) (ps : List (List X)) → 0 < n → AreCut n ps → pieces_of n (flat_map (λ (p : List X). p) ps) ≡ ps
pieces_of-unique n [] h cut = pieces_of-nil n h
pieces_of-unique n (p ∷ []) h cut = ap (pieces_of n) (append-nil p) ∙ pieces_of-one n p cut.0 cut.1
pieces_of-unique {X} n (p ∷ (q ∷ ps)) h cut =
    pieces_of-append n p (flat_map (λ (p : List X). p) (q ∷ ps)) h cut.0
    ∙ ap (λ (t : List (List X)). p ∷ t) (pieces_of-unique n (q ∷ ps) h cut.1)

-- if n divides the length, all pieces are whole
pub whole-pieces_of : {X : Type 0} (n : ℕ) (xs : List X) → 0 < n → length xs % n ≡ 0 → AllByRecursion (λ (p : List X). length p ≡ n) (pieces_of n xs)
whole-pieces_of {X} n xs h e =
    by_pieces n (λ (xs : List X) (ps : List (List X)). length xs % n ≡ 0 → AllByRecursion (λ (p : List X). length p ≡ n) ps) h (λ _. tt) more xs e
  where
    more : (xs : List X) → 0 < length xs → (length (drop n xs) % n ≡ 0 → AllByRecursion (λ (p : List X). length p ≡ n) (pieces_of n (drop n xs)))
        → length xs % n ≡ 0 → (length (take n xs) ≡ n) × AllByRecursion (λ (p : List X). length p ≡ n) (pieces_of n (drop n xs))
    more xs l rest e =
        let k : n ≤ length xs = ⊎_elim (λ (s : length xs < n). absurd (omega (arith, mod-eq_of_lt s))) (λ (s : n ≤ length xs). s) (cases_lt (length xs) n) in
        (simp length-take (omega arith), rest (ap (λ (t : ℕ). t % n) (length-drop n xs) ∙ (sym (mod-eq-sub-mod k) ∙ e)))
