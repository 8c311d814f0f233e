-- Laws of the code of a list of samples.
use Rattle.std.specs.List.{list_all, flat_map}
use Rattle.std.proofs.Common.{◌≡◌, ℕ, zero, suc, ◌+◌, ◌*◌, ◌<◌, ◌≤◌, Bool, true, List, [], ◌∷◌, ◌++◌, length, take, drop, ℤ, refl, sym, ap, ◌∙◌, arith, append_assoc, length-append}
use Rattle.std.proofs.Math.Nat.{mul-le-mul_left}
use Rattle.std.proofs.lemmas.Bool.{and_parts}
use Rattle.std.proofs.lemmas.List.{append-nil, nil_from_length, length-take, length-drop, take-append-le, drop-append-le, take-append-drop, take_all, drop_all, drop-drop}
use Rattle.std.proofs.lemmas.List.Concat.{flat_map-append}
use Rattle.aec_params.specs.Cutting.{pieces_of}
pub use Rattle.aec_params.proofs.CuttingLaws.{pieces_of-nil, pieces_of-step}
use Rattle.aec_bits.specs.Codec.{Format, AreHeld, IsInterval, IsLawful, code_of}

-- ---- pieces

-- if a list is cut at the end of a piece, its pieces are those of both parts
pub pieces_of-append : {X : Type 0} (n k : ℕ) (xs ys : List X) → 0 < n → length xs ≡ k * n → pieces_of n (xs ++ ys) ≡ pieces_of n xs ++ pieces_of n ys
pieces_of-append n zero xs ys h whole =
    let none : xs ≡ [] = nil_from_length xs (omega arith) in
    rw (none, pieces_of-nil n h) refl
pieces_of-append n (suc k) xs ys h whole =
    let grown : suc k * n ≡ k * n + n = omega arith in
    let some : 0 < length xs = omega arith in
    let within : n ≤ length xs = omega arith in
    let left : length (drop n xs) ≡ k * n = length-drop n xs ∙ omega arith in
    pieces_of-step n (xs ++ ys) h (omega (arith, length-append xs ys))
    ∙ ap (λ l. l ∷ pieces_of n (drop n (xs ++ ys))) (take-append-le n xs ys within)
    ∙ ap (λ l. take n xs ∷ pieces_of n l) (drop-append-le n xs ys within)
    ∙ ap (λ l. take n xs ∷ l) (pieces_of-append n k (drop n xs) ys h left)
    ∙ ap (λ l. l ++ pieces_of n ys) (sym (pieces_of-step n xs h some))

-- ---- the code of samples

pub code_of-nil : (f : Format) → 1 ≤ f.most → code_of f [] ≡ []
code_of-nil f h = ap (flat_map f.bits_of) (pieces_of-nil f.most h)

-- the code is the bits of the first interval, then the code of the others
pub code_of_first : (f : Format) (s : List ℤ) → 1 ≤ f.most → 0 < length s → code_of f s ≡ f.bits_of (take f.most s) ++ code_of f (drop f.most s)
code_of_first f s h some = ap (flat_map f.bits_of) (pieces_of-step f.most s h some)

-- the code of one interval is its bits
pub code_of_interval : (f : Format) (s : List ℤ) → 1 ≤ length s → length s ≤ f.most → code_of f s ≡ f.bits_of s
code_of_interval f s some few =
    code_of_first f s (omega arith) some
    ∙ ap (λ l. f.bits_of l ++ code_of f (drop f.most s)) (take_all f.most s few)
    ∙ ap (λ l. f.bits_of s ++ l) (ap (code_of f) (drop_all f.most s few) ∙ code_of-nil f (omega arith))
    ∙ append-nil (f.bits_of s)

-- if samples are cut at the end of an interval, their code is the codes of both parts
pub code_of-append : (f : Format) (k : ℕ) (a b : List ℤ) → 1 ≤ f.most → length a ≡ k * f.most → code_of f (a ++ b) ≡ code_of f a ++ code_of f b
code_of-append f k a b h whole =
    ap (flat_map f.bits_of) (pieces_of-append f.most k a b h whole) ∙ flat_map-append f.bits_of (pieces_of f.most a) (pieces_of f.most b)

-- the code is that of the first k intervals, then that of the other samples
pub code_of_split : (f : Format) (k : ℕ) (s : List ℤ) → 1 ≤ f.most → k * f.most ≤ length s
    → code_of f s ≡ code_of f (take (k * f.most) s) ++ code_of f (drop (k * f.most) s)
code_of_split f k s h within =
    ap (code_of f) (sym (take-append-drop (k * f.most) s))
    ∙ code_of-append f k (take (k * f.most) s) (drop (k * f.most) s) h (omega (arith, length-take (k * f.most) s))

-- the code is that of the first k intervals, the bits of the next one, and the code of the others
pub code_of_around : (f : Format) (k : ℕ) (s : List ℤ) → 1 ≤ f.most → k * f.most < length s
    → code_of f s ≡ code_of f (take (k * f.most) s) ++ (f.bits_of (take f.most (drop (k * f.most) s)) ++ code_of f (drop ((k + 1) * f.most) s))
code_of_around f k s h within =
    let next : k * f.most + f.most ≡ (k + 1) * f.most = omega arith in
    code_of_split f k s h (omega arith)
    ∙ ap (λ l. code_of f (take (k * f.most) s) ++ l)
    (code_of_first f (drop (k * f.most) s) h (omega (arith, length-drop (k * f.most) s))
    ∙ ap (λ l. f.bits_of (take f.most (drop (k * f.most) s)) ++ code_of f l) (drop-drop f.most (k * f.most) s ∙ ap (λ n. drop n s) next))

-- ---- a code and a number of samples determine the samples

held_parts : (holds : ℤ → Bool) (n : ℕ) (s : List ℤ) → list_all holds s ≡ true → (list_all holds (take n s) ≡ true) × (list_all holds (drop n s) ≡ true)
held_parts holds zero s h = (refl, h)
held_parts holds (suc n) [] h = (refl, refl)
held_parts holds (suc n) (x ∷ s) h =
    let both = and_parts (holds x) (list_all holds s) h in
    let rest = held_parts holds n s both.1 in
    (rw (both.0, rest.0) refl, rest.1)

-- codes of at most k intervals determine the samples, whatever bits follow
same_within : (f : Format) (k : ℕ) (a b : List ℤ) (x y : List Bool) → IsLawful f → AreHeld f a → AreHeld f b → length a ≡ length b → length a ≤ k * f.most
    → code_of f a ++ x ≡ code_of f b ++ y → (a ≡ b) × (x ≡ y)
same_within f k [] [] x y lawful held kept len fits e = let none = code_of-nil f lawful.some in (refl, rw none at e)
same_within f k [] (v ∷ b) x y lawful held kept len fits e = absurd (omega arith)
same_within f k (u ∷ a) [] x y lawful held kept len fits e = absurd (omega arith)
same_within f zero (u ∷ a) (v ∷ b) x y lawful held kept len fits e = absurd (omega arith)
same_within f (suc k) (u ∷ a) (v ∷ b) x y lawful held kept len fits e =
    let s : List ℤ = u ∷ a in
    let t : List ℤ = v ∷ b in
    let n : ℕ = f.most in
    let h : 1 ≤ n = lawful.some in
    let some : 0 < length s = omega arith in
    let grown : suc k * n ≡ k * n + n = omega arith in
    let s_parts = held_parts f.holds n s held in
    let t_parts = held_parts f.holds n t kept in
    let s_first : IsInterval f (take n s) = record { some = omega (arith, length-take n s); few = omega (arith, length-take n s); held = s_parts.0 } in
    let t_first : IsInterval f (take n t) = record { some = omega (arith, length-take n t); few = omega (arith, length-take n t); held = t_parts.0 } in
    let split : f.bits_of (take n s) ++ (code_of f (drop n s) ++ x) ≡ f.bits_of (take n t) ++ (code_of f (drop n t) ++ y) =
    sym (append_assoc (f.bits_of (take n s)) (code_of f (drop n s)) x) ∙ ap (λ l. l ++ x) (sym (code_of_first f s h some))
    ∙ e ∙ ap (λ l. l ++ y) (code_of_first f t h (omega arith)) ∙ append_assoc (f.bits_of (take n t)) (code_of f (drop n t)) y in
    let first = lawful.equal_lengths (take n s) (take n t) _ _ s_first t_first (omega (arith, length-take n s, length-take n t)) split in
    let rest = same_within f k (drop n s) (drop n t) x y lawful s_parts.1 t_parts.1
    (omega (arith, length-drop n s, length-drop n t)) (omega (arith, length-drop n s)) first.1 in
    (sym (take-append-drop n s) ∙ ap (λ l. l ++ drop n s) first.0 ∙ ap (λ l. take n t ++ l) rest.0 ∙ take-append-drop n t, rest.1)

pub same_samples_follow : (f : Format) (a b : List ℤ) (x y : List Bool) → IsLawful f → AreHeld f a → AreHeld f b → length a ≡ length b
    → code_of f a ++ x ≡ code_of f b ++ y → (a ≡ b) × (x ≡ y)
same_samples_follow f a b x y lawful held kept len e =
    same_within f (length a) a b x y lawful held kept len (let h = mul-le-mul_left (length a) lawful.some in omega arith) e

pub same_samples : (f : Format) (a b : List ℤ) → IsLawful f → AreHeld f a → AreHeld f b → length a ≡ length b → code_of f a ≡ code_of f b → a ≡ b
same_samples f a b lawful held kept len e = (same_samples_follow f a b [] [] lawful held kept len (ap (λ l. l ++ []) e)).0
