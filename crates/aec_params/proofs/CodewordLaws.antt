-- Codewords of different numbers differ, whatever bits follow; binary numbers are read back.
use Rattle.std.proofs.Common.{◌≡◌, ℕ, zero, suc, ◌+◌, ◌*◌, ◌/◌, ◌%◌, ◌^◌, ◌<◌, Bool, true, false, cond, eqb, List, [], ◌∷◌, ◌++◌, length, map, refl, ap, sym, ◌∙◌, arith, append_assoc}
use Rattle.std.specs.List.{flat_map, AllByRecursion}
use Rattle.std.proofs.lemmas.Nat.{mod-pow-add, pow_pos, same_from_place, mod_below, shr_high, mod_low}
use Rattle.std.proofs.Math.Nat.{pow-suc, mod-eq_of_lt, div-eq_of_lt}
use Rattle.aec_params.proofs.ListLaws.{same_tail, same_head}
use Rattle.aec_params.specs.Codewords.{fs, binary, bits_number}

-- ---- the fundamental sequence

pub fs-prefix_free : (a b : ℕ) (x y : List Bool) → fs a ++ x ≡ fs b ++ y → (a ≡ b) × (x ≡ y)
fs-prefix_free zero zero x y e = (refl, same_tail e)
fs-prefix_free zero (suc b) x y e = absurd (cc)
fs-prefix_free (suc a) zero x y e = absurd (cc)
fs-prefix_free (suc a) (suc b) x y e = let r = fs-prefix_free a b x y (same_tail e) in (ap suc r.0, r.1)

pub length-fs : (v : ℕ) → length (fs v) ≡ v + 1
length-fs zero = refl
length-fs (suc v) = let h = length-fs v in omega arith

-- ---- binary numbers

pub length-binary : (w v : ℕ) → length (binary w v) ≡ w
length-binary zero v = refl
length-binary (suc w) v = ap suc (length-binary w v)

-- the lowest w + 1 bits are bit w and the lowest w bits
pub low_bits : (w v : ℕ) → v % 2 ^ suc w ≡ (v / 2 ^ w % 2) * 2 ^ w + v % 2 ^ w
low_bits w v = let e : suc w ≡ 1 + w = omega arith in rw e (mod-pow-add v 1 w)

pub same_bit : (a b : ℕ) → eqb (a % 2) 1 ≡ eqb (b % 2) 1 → a % 2 ≡ b % 2
same_bit a b e = grind arith

pub binary-tells : (w a b : ℕ) (x y : List Bool) → binary w a ++ x ≡ binary w b ++ y → (a % 2 ^ w ≡ b % 2 ^ w) × (x ≡ y)
binary-tells zero a b x y e = (omega arith, e)
binary-tells (suc w) a b x y e =
    let r = binary-tells w a b x y (same_tail e) in
    let h = same_bit (a / 2 ^ w) (b / 2 ^ w) (same_head e) in
    (low_bits w a ∙ (ap (λ (t : ℕ). t * 2 ^ w + a % 2 ^ w) h ∙ (ap (λ (t : ℕ). b / 2 ^ w % 2 * 2 ^ w + t) r.0 ∙ sym (low_bits w b))), r.1)

pub binary-prefix_free : (w a b : ℕ) (x y : List Bool) → a < 2 ^ w → b < 2 ^ w → binary w a ++ x ≡ binary w b ++ y → (a ≡ b) × (x ≡ y)
binary-prefix_free w a b x y h k e = let r = binary-tells w a b x y e in (sym (mod-eq_of_lt h) ∙ (r.0 ∙ mod-eq_of_lt k), r.1)

pub bits_number-binary_mod : (w v : ℕ) → bits_number (binary w v) ≡ v % 2 ^ w
bits_number-binary_mod zero v = omega arith
bits_number-binary_mod (suc w) v = rw (length-binary w v, low_bits w v, bits_number-binary_mod w v) (bit_value w (v / 2 ^ w))
  where
    bit_value : (w q : ℕ) → cond (eqb (q % 2) 1) (2 ^ w) 0 + v % 2 ^ w ≡ q % 2 * 2 ^ w + v % 2 ^ w
    bit_value w q = grind arith

pub bits_number-binary : (w v : ℕ) → v < 2 ^ w → bits_number (binary w v) ≡ v
bits_number-binary w v h = bits_number-binary_mod w v ∙ mod-eq_of_lt h

double : (n : ℕ) → 2 ^ suc n ≡ 2 ^ n + 2 ^ n
double n = omega (arith, pow-suc 2 n)

pub bits_number-below : (bits : List Bool) → bits_number bits < 2 ^ length bits
bits_number-below [] = omega arith
bits_number-below (true ∷ bits) = let h = bits_number-below bits in let d = double (length bits) in omega (arith, pow_pos (length bits))
bits_number-below (false ∷ bits) = let h = bits_number-below bits in let d = double (length bits) in omega (arith, pow_pos (length bits))

-- a binary number in w bits depends only on the lowest w bits
pub binary-same : (w a b : ℕ) → a % 2 ^ w ≡ b % 2 ^ w → binary w a ≡ binary w b
binary-same zero a b e = refl
binary-same (suc w) a b e =
    let h = same_from_place (a / 2 ^ w % 2) (a % 2 ^ w) (b / 2 ^ w % 2) (b % 2 ^ w) (2 ^ w) (mod_below a (2 ^ w) (pow_pos w))
    (mod_below b (2 ^ w) (pow_pos w)) (sym (low_bits w a) ∙ (e ∙ low_bits w b)) in
    let r = binary-same w a b h.1 in
    cc (ap (λ (t : ℕ). eqb t 1) h.0)

with_top_bit : (w n : ℕ) → n < 2 ^ w → eqb ((2 ^ w + n) / 2 ^ w % 2) 1 ∷ binary w (2 ^ w + n) ≡ true ∷ binary w n
with_top_bit w n h =
    let e : 1 * 2 ^ w + n ≡ 2 ^ w + n = omega arith in
    let q : (2 ^ w + n) / 2 ^ w ≡ 1 = rw (← e) (shr_high 1 w n h) in
    let m : (2 ^ w + n) % 2 ^ w ≡ n % 2 ^ w = rw (← e) (mod_low 1 w n h ∙ sym (mod-eq_of_lt h)) in
    let r = binary-same w (2 ^ w + n) n m in
    rw q (ap (λ (t : List Bool). true ∷ t) r)

without_top_bit : (w n : ℕ) → n < 2 ^ w → eqb ((0 + n) / 2 ^ w % 2) 1 ∷ binary w (0 + n) ≡ false ∷ binary w n
without_top_bit w n h =
    let e : 0 + n ≡ n = omega arith in
    let q : n / 2 ^ w ≡ 0 = omega (arith, div-eq_of_lt h) in
    rw (e, q) refl

pub binary-bits_number : (bits : List Bool) → binary (length bits) (bits_number bits) ≡ bits
binary-bits_number [] = refl
binary-bits_number (true ∷ bits) =
    with_top_bit (length bits) (bits_number bits) (bits_number-below bits) ∙ ap (λ (t : List Bool). true ∷ t) (binary-bits_number bits)
binary-bits_number (false ∷ bits) =
    without_top_bit (length bits) (bits_number bits) (bits_number-below bits) ∙ ap (λ (t : List Bool). false ∷ t) (binary-bits_number bits)

-- ---- codes of lists

-- if a codeword determines the key of its element, whatever bits follow, the code of a list of
-- known length determines the keys of its elements
pub flat_map-tells : {X K : Type 0} (P : X → Type 0) (code : X → List Bool) (key : X → K)
    → ((a b : X) (u v : List Bool) → P a → P b → code a ++ u ≡ code b ++ v → (key a ≡ key b) × (u ≡ v))
    → (xs ys : List X) (u v : List Bool) → length xs ≡ length ys → AllByRecursion P xs → AllByRecursion P ys
    → flat_map code xs ++ u ≡ flat_map code ys ++ v → (map key xs ≡ map key ys) × (u ≡ v)
flat_map-tells P code key tells [] [] u v l p q e = (refl, e)
flat_map-tells P code key tells [] (b ∷ ys) u v l p q e = absurd (omega arith)
flat_map-tells P code key tells (a ∷ xs) [] u v l p q e = absurd (omega arith)
flat_map-tells P code key tells (a ∷ xs) (b ∷ ys) u v l p q e =
    let h = tells a b (flat_map code xs ++ u) (flat_map code ys ++ v) p.0 q.0
    (sym (append_assoc (code a) (flat_map code xs) u) ∙ (e ∙ append_assoc (code b) (flat_map code ys) v)) in
    let r = flat_map-tells P code key tells xs ys u v (omega arith) p.1 q.1 h.1 in
    (cc, r.1)
