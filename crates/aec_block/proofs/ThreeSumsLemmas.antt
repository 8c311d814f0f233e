-- Three sums in lanes of 32 bits are the sums of the values.
use Rattle.std.proofs.Common.{◌≡◌, ℕ, ◌+◌, ◌-◌, ◌*◌, ◌/◌, ◌<◌, ◌≤◌, ◌^◌, ◌∙◌, sym, subst, arith, List, [], ◌∷◌, length, take, drop}
use Rattle.std.specs.Simd.Lanes.{sum_l, zip2, fold_l}
use mir.Syntax.{add, unsigned, w32}
use borrow.Rule.Simd.Lanes.{act2}
use borrow.Table.Row.{s_int}
use Rattle.std.proofs.lemmas.Simd.{adds_fit, sum_fits, sum-zip2, fold-sum, length-zip2}
use Rattle.std.specs.List.{AllByRecursion}
use Rattle.std.proofs.lemmas.List.Sums.{sum_by-cons, sum_by-take-drop}
use Rattle.std.proofs.lemmas.Nat.{mul-le, pow-add, pow_pos}
use Rattle.std.proofs.Math.Nat.{div-lt_iff_lt-mul, add-mul}
use Rattle.std.proofs.Math.Pow.{pow_mono}
use Rattle.aec_block.specs.Lengths.{sum_of_shifted}
use Rattle.aec_block.proofs.LanesLemmas.{eight_more}
use Rattle.aec_block.proofs.SplittingLemmas.{sum_of_shifted-halved}

-- adding lane to lane adds the sums of the lanes; adding up the lanes makes their sum
pub sum_l-added : (xs ys : List ℕ) → length xs ≡ 8 → length ys ≡ 8
    → sum_l (zip2 (act2 (add unsigned) (s_int w32) (s_int w32) (s_int w32)) xs ys) ≡ sum_l xs + sum_l ys
sum_l-added xs ys long_x long_y = sum-zip2 xs ys (long_x ∙ sym long_y)

pub fold_l-added : (xs : List ℕ) → fold_l (act2 (add unsigned) (s_int w32) (s_int w32) (s_int w32)) 0 xs ≡ sum_l xs
fold_l-added xs = omega (arith, fold-sum 0 xs)

pub ruleset additions = (adds_fit, sum_fits, sum_l-added, fold_l-added, length-zip2)

-- the first n values add up to at most the sum of all
front-le : (k n : ℕ) (values : List ℕ) → sum_of_shifted k (take n values) ≤ sum_of_shifted k values
front-le k n values = omega (arith, sum_by-take-drop (λ (v : ℕ). v / 2 ^ k) values n)

-- with eight more values, the sum is still below 2^32
pub eight_more-fits : (k i : ℕ) (values : List ℕ) → sum_of_shifted k values < 2 ^ 32
    → sum_of_shifted k (take (8 * i) values) + sum_of_shifted k (take (8 * i + 8 - 8 * i) (drop (8 * i) values)) < 2 ^ 32
eight_more-fits k i values small = omega (arith, eight_more k i values, front-le k (8 * (i + 1)) values)

-- with one more low bit removed, the sum is still below 2^32
pub less-small : (k : ℕ) (values : List ℕ) → sum_of_shifted k values < 2 ^ 32 → sum_of_shifted (k + 1) values < 2 ^ 32
less-small k values small = omega (arith, sum_of_shifted-halved k values)

pub two_less-small : (k : ℕ) (values : List ℕ) → sum_of_shifted k values < 2 ^ 32 → sum_of_shifted (k + 2) values < 2 ^ 32
two_less-small k values small =
    let two : k + 1 + 1 ≡ k + 2 = omega arith in
    subst (λ i. sum_of_shifted i values < 2 ^ 32) two (less-small (k + 1) values (less-small k values small))

-- the sum of a part of the values is below 2^32 too
pub part-small : (k m n : ℕ) (values : List ℕ) → sum_of_shifted k values < 2 ^ 32 → sum_of_shifted k (take m (drop n values)) < 2 ^ 32
part-small k m n values small =
    omega (arith, sum_by-take-drop (λ (v : ℕ). v / 2 ^ k) values n, sum_by-take-drop (λ (v : ℕ). v / 2 ^ k) (drop n values) m)

pub front-small : (k n : ℕ) (values : List ℕ) → sum_of_shifted k values < 2 ^ 32 → sum_of_shifted k (take n values) < 2 ^ 32
front-small k n values small = omega (arith, front-le k n values)

-- values of n bits add up to at most 2 ^ n - 1 times their number
below-sum : (n : ℕ) (values : List ℕ) → AllByRecursion (λ v. v < 2 ^ n) values → sum_of_shifted 0 values + length values ≤ length values * 2 ^ n
below-sum n [] below = omega arith
below-sum n (v ∷ values) below =
    let rest = below-sum n values below.1 in
    let added = sum_by-cons (λ (u : ℕ). u / 2 ^ 0) v values in
    let here = below.0 in
    omega arith

-- values of m + k bits without k low bits add up to at most 2 ^ m - 1 times their number
shifted-below : (k n m : ℕ) (values : List ℕ) → n ≤ m + k → AllByRecursion (λ v. v < 2 ^ n) values
    → sum_of_shifted k values + length values ≤ length values * 2 ^ m
shifted-below k n m [] wide below = omega arith
shifted-below k n m (v ∷ values) wide below =
    let rest = shifted-below k n m values wide below.1 in
    let added = sum_by-cons (λ (u : ℕ). u / 2 ^ k) v values in
    let power : 2 ^ n ≤ 2 ^ (m + k) = pow_mono wide in
    let here = below.0 in
    let product : 2 ^ (m + k) ≡ 2 ^ m * 2 ^ k = pow-add 2 m k in
    let quotient : v / 2 ^ k < 2 ^ m = (div-lt_iff_lt-mul (pow_pos k)).1 (omega arith) in
    let counts : (1 + length values) * 2 ^ m ≡ 1 * 2 ^ m + length values * 2 ^ m = add-mul _ _ _ in
    omega arith

pub shifted-small : (k n : ℕ) (values : List ℕ) → n ≤ 26 + k → length values ≤ 64 → AllByRecursion (λ v. v < 2 ^ n) values
    → sum_of_shifted k values < 2 ^ 32
shifted-small k n [] few most below = omega arith
shifted-small k n (v ∷ values) few most below =
    let same : 2 ^ 26 ≤ 2 ^ 26 = omega arith in
    let product = mul-le (length (v ∷ values)) (2 ^ 26) 64 (2 ^ 26) most same in
    omega (arith, shifted-below k n 26 (v ∷ values) few below)

pub narrow-small : (n : ℕ) (values : List ℕ) → n ≤ 26 → length values ≤ 64 → AllByRecursion (λ v. v < 2 ^ n) values → sum_of_shifted 0 values < 2 ^ 32
narrow-small n [] few most below = omega arith
narrow-small n (v ∷ values) few most below =
    let power : 2 ^ n ≤ 2 ^ 26 = pow_mono few in
    let product = mul-le (length (v ∷ values)) (2 ^ n) 64 (2 ^ 26) most power in
    omega (arith, below-sum n (v ∷ values) below)
