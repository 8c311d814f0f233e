-- Pair numbers, and the codewords of pairs: each number is the number of one pair.
use Rattle.std.proofs.Common.{◌≡◌, ℕ, zero, suc, ◌+◌, ◌-◌, ◌*◌, ◌≤◌, Bool, refl, sym, ap, ◌∙◌, add-one, zero-add, append_assoc, List, [], ◌∷◌, ◌++◌, length, arith}
use Rattle.aec_params.specs.Codewords.{fs}
use Rattle.aec_params.specs.CodedDataSets.{pair_number, pair_bits}
use Rattle.aec_block.specs.ReadAt.{taken, map_taken, fs_at, next_pair, pair_with_number, before_members, members_at}
use Rattle.aec_block.proofs.CodewordLemmas.{fs_at-fs, fs_at-spelled, then_at-passed, map_taken-mapped}

-- the sum of the numbers up to n
abbrev pub triangle : ℕ → ℕ
triangle zero = 0
triangle (suc n) = triangle n + suc n

half_of_product : (n : ℕ) → n * (n + 1) ≡ 2 * triangle n
half_of_product zero = refl
half_of_product (suc n) = let e = half_of_product n in omega arith

pub pair_number-triangle : (a b : ℕ) → pair_number a b ≡ triangle (a + b) + b
pair_number-triangle a b = let e = half_of_product (a + b) in omega arith

le_triangle : (n : ℕ) → n ≤ triangle n
le_triangle zero = omega arith
le_triangle (suc n) = omega (arith, le_triangle n)

-- the pair (a, b) is the pair of its number
pub pair_with_number-number : (m a b : ℕ) → triangle (a + b) + b ≡ m → pair_with_number m ≡ record { first = a; second = b }
pair_with_number-number zero a b e =
    let low = le_triangle (a + b) in
    let no_first : a ≡ 0 = omega arith in
    let no_second : b ≡ 0 = omega arith in
    rw (no_first, no_second) refl
pair_with_number-number (suc m) zero zero e = absurd (omega arith)
pair_with_number-number (suc m) (suc a) zero e =
    let sum : suc a + 0 ≡ suc a = omega arith in
    let number : triangle (suc a) + 0 ≡ suc m = rw sum at e in
    let from_zero : 0 + a ≡ a = zero-add a in
    let before : triangle (0 + a) + a ≡ m = rw from_zero (omega arith) in
    let place : a + 1 ≡ suc a = add-one a in
    ap next_pair (pair_with_number-number m 0 a before) ∙ ap (λ n. record { first = n; second = 0 }) place
pair_with_number-number (suc m) a (suc b) e =
    let sum : a + suc b ≡ suc a + b = omega arith in
    let number : triangle (suc a + b) + suc b ≡ suc m = rw sum at e in
    let before : triangle (suc a + b) + b ≡ m = omega arith in
    ap next_pair (pair_with_number-number m (suc a) b before) ∙ rw (add-one b) refl

pub pair_with_number-pair_number : (a b : ℕ) → pair_with_number (pair_number a b) ≡ record { first = a; second = b }
pair_with_number-pair_number a b = pair_with_number-number (pair_number a b) a b (sym (pair_number-triangle a b))

-- the pair of a number, by the pair's sum and its second member
pub pair_with_number-sum : (m sum second : ℕ) → triangle sum + second ≡ m → second ≤ sum → pair_with_number m ≡ record { first = sum - second; second = second }
pair_with_number-sum m sum second number within =
    let whole : sum - second + second ≡ sum = omega arith in
    pair_with_number-number m (sum - second) second (ap (λ n. triangle n + second) whole ∙ number)

next_number : (a b : ℕ) → let p = next_pair (record { first = a; second = b }) in
    triangle (p.first + p.second) + p.second ≡ suc (triangle (a + b) + b)
next_number zero b =
    let sum : b + 1 + 0 ≡ suc b = omega arith in
    let from_zero : 0 + b ≡ b = zero-add b in
    rw (sum, from_zero) (omega arith)
next_number (suc a) b =
    let sum : a + (b + 1) ≡ suc a + b = omega arith in
    rw sum (omega arith)

pub triangle_number : (m : ℕ) → triangle ((pair_with_number m).first + (pair_with_number m).second) + (pair_with_number m).second ≡ m
triangle_number zero = refl
triangle_number (suc m) = next_number (pair_with_number m).first (pair_with_number m).second ∙ ap (λ n. suc n) (triangle_number m)

pub pair_number-pair_with_number : (m : ℕ) → pair_number (pair_with_number m).first (pair_with_number m).second ≡ m
pair_number-pair_with_number m = pair_number-triangle (pair_with_number m).first (pair_with_number m).second ∙ triangle_number m

-- ---- the codewords of pairs

pub members_at-pair_bits : (n : ℕ) (values : List ℕ) (rest : List Bool) → length values ≡ 2 * n → members_at n (pair_bits values ++ rest) ≡ taken values rest
members_at-pair_bits zero [] rest even = refl
members_at-pair_bits zero (a ∷ values) rest even = absurd (omega arith)
members_at-pair_bits (suc n) [] rest even = absurd (omega arith)
members_at-pair_bits (suc n) (a ∷ []) rest even = absurd (omega arith)
members_at-pair_bits (suc n) (a ∷ (b ∷ values)) rest even =
    rw (
      append_assoc (fs (pair_number a b)) (pair_bits values) rest,
      fs_at-fs (pair_number a b) (pair_bits values ++ rest),
      pair_with_number-pair_number a b,
      members_at-pair_bits n values rest (omega arith),
    ) refl

-- what a reading of n pairs has taken
pub record SpelledPairs (n : ℕ) (bits : List Bool) (values : List ℕ) (rest : List Bool) : Type 0 where
  pub count : length values ≡ 2 * n
  pub spelled : bits ≡ pair_bits values ++ rest

pub members_at-spelled : (n : ℕ) (bits : List Bool) (values : List ℕ) (rest : List Bool)
    → members_at n bits ≡ taken values rest → SpelledPairs n bits values rest
members_at-spelled zero bits values rest e =
    let none : [] ≡ values = cc in
    let same : bits ≡ rest = cc in
    rw (← none) (record { count = refl; spelled = same })
members_at-spelled (suc n) bits values rest e =
    let p = then_at-passed (fs_at bits) (λ m behind. map_taken (before_members (pair_with_number m)) (members_at n behind)) values rest e in
    let m = map_taken-mapped (before_members (pair_with_number p.value)) (members_at n p.behind) values rest p.after in
    let later = members_at-spelled n p.behind m.value rest m.before in
    let first = fs_at-spelled bits p.value p.behind p.before in
    let number = pair_number-pair_with_number p.value in
    let even : suc (suc (length m.value)) ≡ 2 * suc n = omega (arith, later.count) in
    rw (← m.after) (record {
      count = even;
      spelled = first ∙ (ap (λ l. fs p.value ++ l) later.spelled ∙ rw number (sym (append_assoc (fs p.value) (pair_bits m.value) rest)));
    })
