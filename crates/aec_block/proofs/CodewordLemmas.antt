-- Fundamental sequences and binary numbers: what was spelled is read back, and what is read was
-- spelled.
use Rattle.std.proofs.Common.{◌≡◌, ℕ, zero, suc, ◌+◌, ◌*◌, ◌/◌, ◌%◌, ◌^◌, ◌<◌, ◌≤◌, Bool, true, false, ◌==◌, cond, List, [], ◌∷◌, ◌++◌, length, take, drop, refl, sym, ap, ◌∙◌, add-one, append_assoc, arith, inl, inr, zero-add, ◌⊎◌}
use Rattle.std.specs.List.{AllByRecursion, flat_map}
use Rattle.std.proofs.lemmas.Nat.{mod-pow-add, pow_pos, pow-add, shr-shr, shr_high}
use Rattle.std.proofs.lemmas.Bool.{cases_lt, le-leb, lt-leb}
use Rattle.std.proofs.lemmas.List.{length-append, length-take-le, take-append-drop}
use Rattle.std.proofs.Math.Seq.{take-append_seam, drop-append_seam}
use Rattle.std.proofs.Math.Nat.{pow-suc, mod-eq_of_lt, div-eq_of_lt, mul-add-div_right, mul-add-mod_self_right}
use Rattle.aec_params.specs.Codewords.{fs, binary, bits_number}
use Rattle.aec_params.proofs.CodewordLaws.{length-binary}
use Rattle.aec_block.specs.ReadAt.{Taken, nothing, taken, then_at, map_taken, fs_at, binary_at, values_at}

-- ---- what was taken in steps

pub cases_taken : {X : Type 0} (t : Taken X) → (t ≡ nothing) ⊎ ((x : X) × ((rest : List Bool) × (t ≡ taken x rest)))
cases_taken nothing = inl refl
cases_taken (taken x rest) = inr (x, (rest, refl))

pub record Passed {X Y : Type 0} (t : Taken X) (next : X → List Bool → Taken Y) (y : Y) (rest : List Bool) : Type 0 where
  pub value : X
  pub behind : List Bool
  pub before : t ≡ taken value behind
  pub after : next value behind ≡ taken y rest

pub then_at-passed : {X Y : Type 0} (t : Taken X) (next : X → List Bool → Taken Y) (y : Y) (rest : List Bool)
    → then_at t next ≡ taken y rest → Passed t next y rest
then_at-passed nothing next y rest e = absurd (cc)
then_at-passed (taken x mid) next y rest e = record { value = x; behind = mid; before = refl; after = e }

pub record Mapped {X Y : Type 0} (f : X → Y) (t : Taken X) (y : Y) (rest : List Bool) : Type 0 where
  pub value : X
  pub before : t ≡ taken value rest
  pub after : f value ≡ y

pub map_taken-mapped : {X Y : Type 0} (f : X → Y) (t : Taken X) (y : Y) (rest : List Bool) → map_taken f t ≡ taken y rest → Mapped f t y rest
map_taken-mapped f nothing y rest e = absurd (cc)
map_taken-mapped f (taken x mid) y rest e = let same : mid ≡ rest = cc in record { value = x; before = ap (taken x) same; after = cc }

-- ---- fundamental sequences

pub fs_at-fs : (v : ℕ) (rest : List Bool) → fs_at (fs v ++ rest) ≡ taken v rest
fs_at-fs zero rest = refl
fs_at-fs (suc v) rest = ap (map_taken (λ n. n + 1)) (fs_at-fs v rest) ∙ ap (λ n. taken n rest) (add-one v)

pub fs_at-spelled : (bits : List Bool) (v : ℕ) (rest : List Bool) → fs_at bits ≡ taken v rest → bits ≡ fs v ++ rest
fs_at-spelled [] v rest e = absurd (cc)
fs_at-spelled (true ∷ bits) v rest e =
    let none : 0 ≡ v = cc in let same : bits ≡ rest = cc in rw (← none) (ap (λ l. true ∷ l) same)
fs_at-spelled (false ∷ bits) v rest e =
    let m = map_taken-mapped (λ n. n + 1) (fs_at bits) v rest e in
    let spelled = fs_at-spelled bits m.value rest m.before in
    let next : suc m.value ≡ v = sym (add-one m.value) ∙ m.after in
    rw (← next) (ap (λ l. false ∷ l) spelled)

-- ---- binary numbers of w bits

-- the number that the lowest bit of v means at a place of weight p
bit_number : (v p : ℕ) → cond (v % 2 == 1) p 0 ≡ v % 2 * p
bit_number v p = grind arith

pub bits_number-binary : (w v : ℕ) → bits_number (binary w v) ≡ v % 2 ^ w
bits_number-binary zero v = grind arith
bits_number-binary (suc w) v =
    let e : suc w ≡ 1 + w = omega arith in
    rw (length-binary w v, bits_number-binary w v, bit_number (v / 2 ^ w) (2 ^ w), e, mod-pow-add v 1 w) refl

pub bits_number-lt : (bits : List Bool) → bits_number bits < 2 ^ length bits
bits_number-lt [] = omega arith
bits_number-lt (true ∷ bits) = omega (arith, pow-suc 2 (length bits), bits_number-lt bits)
bits_number-lt (false ∷ bits) = omega (arith, pow-suc 2 (length bits), bits_number-lt bits)

-- bits above bit w add an even number of 2 ^ w
even_above : (w d x : ℕ) → x * 2 ^ (suc w + d) ≡ x * 2 ^ d * 2 * 2 ^ w
even_above w d x = rw (pow-add 2 (suc w) d, pow-suc 2 w) (omega arith)

bit_below : (w d x v : ℕ) → (x * 2 ^ (suc w + d) + v) / 2 ^ w % 2 ≡ v / 2 ^ w % 2
bit_below w d x v =
    rw (even_above w d x, mul-add-div_right (pow_pos w) (x * 2 ^ d * 2) v) (mul-add-mod_self_right (x * 2 ^ d) 2 (v / 2 ^ w))

binary-add_high : (w d x v : ℕ) → binary w (x * 2 ^ (w + d) + v) ≡ binary w v
binary-add_high zero d x v = refl
binary-add_high (suc w) d x v =
    let e : suc w + d ≡ w + suc d = omega arith in
    let lower : binary w (x * 2 ^ (suc w + d) + v) ≡ binary w v = rw e (binary-add_high w (suc d) x v) in
    rw (bit_below w d x v, lower) refl

pub binary-bits_number : (bits : List Bool) → binary (length bits) (bits_number bits) ≡ bits
binary-bits_number [] = refl
binary-bits_number (true ∷ bits) =
    let l = length bits in
    let n = bits_number bits in
    let one_more : 2 ^ l + n ≡ 1 * 2 ^ l + n = omega arith in
    let high : (2 ^ l + n) / 2 ^ l ≡ 1 = ap (λ m. m / 2 ^ l) one_more ∙ shr_high 1 l n (bits_number-lt bits) in
    let at_length : l ≡ l + 0 = omega arith in
    let written : 2 ^ l + n ≡ 1 * 2 ^ (l + 0) + n = one_more ∙ ap (λ m. 1 * 2 ^ m + n) at_length in
    let low : binary l (2 ^ l + n) ≡ bits = ap (binary l) written ∙ (binary-add_high l 0 1 n ∙ binary-bits_number bits) in
    rw (high, low) refl
binary-bits_number (false ∷ bits) =
    let l = length bits in
    let n = bits_number bits in
    let high : (0 + n) / 2 ^ l ≡ 0 = div-eq_of_lt (omega (arith, bits_number-lt bits)) in
    let low : binary l (0 + n) ≡ bits = ap (binary l) (zero-add n) ∙ binary-bits_number bits in
    rw (high, low) refl

pub binary-add : (w d v : ℕ) → binary (w + d) v ≡ binary w (v / 2 ^ d) ++ binary d v
binary-add zero d v = ap (λ n. binary n v) (zero-add d)
binary-add (suc w) d v =
    let length_is : suc w + d ≡ suc (w + d) = omega arith in
    let turned : d + w ≡ w + d = omega arith in
    let bit : v / 2 ^ d / 2 ^ w ≡ v / 2 ^ (w + d) = shr-shr v d w ∙ ap (λ n. v / 2 ^ n) turned in
    rw (length_is, bit, binary-add w d v) refl

pub binary_at-append : (front rest : List Bool) → binary_at (length front) (front ++ rest) ≡ taken (bits_number front) rest
binary_at-append front rest =
    let long : length front ≤ length (front ++ rest) = omega (arith, length-append front rest) in
    rw (le-leb (length front) (length (front ++ rest)) long, take-append_seam front rest, drop-append_seam front rest) refl

pub binary_at-binary : (w v : ℕ) (rest : List Bool) → v < 2 ^ w → binary_at w (binary w v ++ rest) ≡ taken v rest
binary_at-binary w v rest small =
    ap (λ n. binary_at n (binary w v ++ rest)) (sym (length-binary w v))
    ∙ binary_at-append (binary w v) rest
    ∙ ap (λ n. taken n rest) (bits_number-binary w v ∙ mod-eq_of_lt small)

binary_at-spelled_long : (w : ℕ) (bits : List Bool) (v : ℕ) (rest : List Bool) → w ≤ length bits → binary_at w bits ≡ taken v rest
    → (v < 2 ^ w) × (bits ≡ binary w v ++ rest)
binary_at-spelled_long w bits v rest long e =
    let front = length-take-le w bits long in
    let read : taken (bits_number (take w bits)) (drop w bits) ≡ taken v rest = rw (le-leb w (length bits) long) at e in
    let number : bits_number (take w bits) ≡ v = cc in
    let behind : drop w bits ≡ rest = cc in
    let small : v < 2 ^ w = rw (front, number) at (bits_number-lt (take w bits)) in
    let spelled : binary w v ≡ take w bits =
    ap (λ n. binary n v) (sym front) ∙ (ap (binary (length (take w bits))) (sym number) ∙ binary-bits_number (take w bits)) in
    (small, sym (take-append-drop w bits) ∙ rw (spelled, behind) refl)

pub binary_at-spelled : (w : ℕ) (bits : List Bool) (v : ℕ) (rest : List Bool) → binary_at w bits ≡ taken v rest
    → (v < 2 ^ w) × (bits ≡ binary w v ++ rest)
binary_at-spelled w bits v rest e =
    elim (cases_lt (length bits) w) [
      | inl short ↦ let read : nothing ≡ taken v rest = rw (lt-leb w (length bits) short) at e in absurd (cc)
      | inr long ↦ binary_at-spelled_long w bits v rest long e
    ]

-- ---- numbers in a row

-- a reader of codewords: what was spelled is read back, and what is read was spelled
pub record IsReader (code : ℕ → List Bool) (P : ℕ → Type 0) (value_at : List Bool → Taken ℕ) : Type 0 where
  pub reads : (v : ℕ) (rest : List Bool) → P v → value_at (code v ++ rest) ≡ taken v rest
  pub spelled : (bits : List Bool) (v : ℕ) (rest : List Bool) → value_at bits ≡ taken v rest → P v × (bits ≡ code v ++ rest)

pub fs_reader : IsReader fs (λ v. Unit {0}) fs_at
fs_reader = record { reads = λ v rest p. fs_at-fs v rest; spelled = λ bits v rest e. (tt, fs_at-spelled bits v rest e) }

pub binary_reader : (w : ℕ) → IsReader (binary w) (λ v. v < 2 ^ w) (binary_at w)
binary_reader w = record { reads = λ v rest p. binary_at-binary w v rest p; spelled = binary_at-spelled w }

pub all_numbers : (values : List ℕ) → AllByRecursion (λ v. Unit {0}) values
all_numbers [] = tt
all_numbers (v ∷ values) = (tt, all_numbers values)

pub values_at-reads : (code : ℕ → List Bool) (P : ℕ → Type 0) (value_at : List Bool → Taken ℕ) → IsReader code P value_at
    → (values : List ℕ) (rest : List Bool) → AllByRecursion P values → values_at value_at (length values) (flat_map code values ++ rest) ≡ taken values rest
values_at-reads code P value_at reader [] rest all = refl
values_at-reads code P value_at reader (v ∷ values) rest all =
    rw (
      append_assoc (code v) (flat_map code values) rest,
      reader.reads v (flat_map code values ++ rest) all.0,
      values_at-reads code P value_at reader values rest all.1,
    ) refl

-- what a reading of n values has taken
pub record SpelledValues (code : ℕ → List Bool) (P : ℕ → Type 0) (n : ℕ) (bits : List Bool) (values : List ℕ) (rest : List Bool) : Type 0 where
  pub count : length values ≡ n
  pub all : AllByRecursion P values
  pub spelled : bits ≡ flat_map code values ++ rest

pub values_at-spelled : (code : ℕ → List Bool) (P : ℕ → Type 0) (value_at : List Bool → Taken ℕ) → IsReader code P value_at
    → (n : ℕ) (bits : List Bool) (values : List ℕ) (rest : List Bool) → values_at value_at n bits ≡ taken values rest → SpelledValues code P n bits values rest
values_at-spelled code P value_at reader zero bits values rest e =
    let none : [] ≡ values = cc in
    let same : bits ≡ rest = cc in
    rw (← none) (record { count = refl; all = tt; spelled = same })
values_at-spelled code P value_at reader (suc n) bits values rest e =
    let p = then_at-passed (value_at bits) (λ v behind. map_taken (λ later. v ∷ later) (values_at value_at n behind)) values rest e in
    let m = map_taken-mapped (λ later. p.value ∷ later) (values_at value_at n p.behind) values rest p.after in
    let later = values_at-spelled code P value_at reader n p.behind m.value rest m.before in
    let first = reader.spelled bits p.value p.behind p.before in
    rw (← m.after) (record {
      count = ap (λ i. suc i) later.count;
      all = (first.0, later.all);
      spelled = first.1 ∙ (ap (λ l. code p.value ++ l) later.spelled ∙ sym (append_assoc (code p.value) (flat_map code m.value) rest));
    })
