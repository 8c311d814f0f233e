-- The first k whose successor isn't shorter is the best.
use Rattle.std.proofs.Common.{◌≡◌, ℕ, zero, suc, Bool, true, false, ◌&&◌, nat_lt, refl, ap, ◌∙◌, ◌+◌, ◌-◌, ◌*◌, ◌/◌, ◌^◌, ◌<◌, ◌≤◌, subst, arith, ⊎_elim, inl, inr, List, [], ◌∷◌, length}
use Rattle.std.proofs.lemmas.Bool.{cases_lt}
use mir.Val.{bool_byte}
use Rattle.std.proofs.lemmas.Bool.Decides.{nat_tests}
use lib.Count.{count_leading_zeros, leading_of_zero}
use Rattle.std.proofs.Math.Pow.{pow_mono}
use Rattle.std.proofs.lemmas.Nat.{shr-shr, pow_pos, pow-add, leading_le, leading_top, leading_length}
use Rattle.std.proofs.Math.Nat.{lt-div-mul-add, div-mul-le_self, add-mul, mul-le-mul_right, mul-lt-mul_of_pos_right, le_of_mul-le-mul_right}
use Rattle.std.proofs.lemmas.List.Sums.{sum_by-cons}
use Rattle.aec_block.specs.Lengths.{sum_of_shifted, split_values_length, IsBestSplit}

-- with one more low bit removed, the sum is at most half
pub sum_of_shifted-halved : (k : ℕ) (values : List ℕ) → 2 * sum_of_shifted (k + 1) values ≤ sum_of_shifted k values
sum_of_shifted-halved k [] = omega arith
sum_of_shifted-halved k (v ∷ values) =
    let rest = sum_of_shifted-halved k values in
    let now = sum_by-cons (λ (u : ℕ). u / 2 ^ k) v values in
    let next = sum_by-cons (λ (u : ℕ). u / 2 ^ (k + 1)) v values in
    let half : v / 2 ^ k / 2 ≡ v / 2 ^ (k + 1) = shr-shr v k 1 in
    omega arith

-- if the sum for k is at most the number of values, so is each later sum; then no later k is
-- shorter than the k before it
sum_of_shifted-small : (k d : ℕ) (values : List ℕ) → sum_of_shifted k values ≤ length values → sum_of_shifted (k + d) values ≤ length values
sum_of_shifted-small k zero values small = subst (λ j. sum_of_shifted j values ≤ length values) (omega arith) small
sum_of_shifted-small k (suc d) values small =
    let before = sum_of_shifted-small k d values small in
    let halved = sum_of_shifted-halved (k + d) values in
    subst (λ j. sum_of_shifted j values ≤ length values) (omega arith) (next (sum_of_shifted (k + d) values) (sum_of_shifted (k + d + 1) values) before halved)
  where
    next : (now later : ℕ) → now ≤ length values → 2 * later ≤ now → later ≤ length values
    next now later h half = omega arith

one_more : (j : ℕ) (values : List ℕ) → sum_of_shifted j values ≤ length values → split_values_length j values ≤ split_values_length (j + 1) values
one_more j values small = omega arith

more : (k d : ℕ) (values : List ℕ) → sum_of_shifted k values ≤ length values → split_values_length k values ≤ split_values_length (k + d) values
more k zero values small =
    let same : split_values_length k values ≤ split_values_length k values = omega arith in
    subst (λ j. split_values_length k values ≤ split_values_length j values) (omega arith) same
more k (suc d) values small =
    let before = more k d values small in
    let step = one_more (k + d) values (sum_of_shifted-small k d values small) in
    subst (λ j. split_values_length k values ≤ split_values_length j values) (omega arith)
    (after (split_values_length k values) (split_values_length (k + d) values) (split_values_length (k + d + 1) values) before step)
  where
    after : (a b c : ℕ) → a ≤ b → b ≤ c → a ≤ c
    after a b c f g = omega arith

-- if k + 1 isn't shorter than k, no later k is
no_later : (k j : ℕ) (values : List ℕ) → sum_of_shifted k values ≤ sum_of_shifted (k + 1) values + length values → k < j
    → split_values_length k values ≤ split_values_length j values
no_later k j values stop later =
    let halved = sum_of_shifted-halved k values in
    let small : sum_of_shifted (k + 1) values ≤ length values = omega arith in
    let here : split_values_length k values ≤ split_values_length (k + 1) values = omega arith in
    let there = more (k + 1) (j - (k + 1)) values small in
    subst (λ i. split_values_length k values ≤ split_values_length i values) (omega arith)
    (after (split_values_length k values) (split_values_length (k + 1) values) (split_values_length (k + 1 + (j - (k + 1))) values) here there)
  where
    after : (a b c : ℕ) → a ≤ b → b ≤ c → a ≤ c
    after a b c f g = omega arith

-- each j below k is longer than k
abbrev pub FallsTo : ℕ → List ℕ → Type 0
FallsTo k values = (j : ℕ) → j < k → split_values_length k values < split_values_length j values

pub falls_to-none : (values : List ℕ) → FallsTo 0 values
falls_to-none values j h = absurd (omega arith)

-- if k + 1 is shorter than k, the lengths fall to k + 1
falls_to-next : (k : ℕ) (values : List ℕ) → FallsTo k values → split_values_length (k + 1) values < split_values_length k values → FallsTo (k + 1) values
falls_to-next k values falls step j h =
    ⊎_elim (λ e. after (split_values_length (k + 1) values) (split_values_length k values) (split_values_length j values) step (falls j e))
    (λ e. subst (λ i. split_values_length (k + 1) values < split_values_length i values) (omega arith) step) (cases_lt j k)
  where
    after : (a b c : ℕ) → a < b → b < c → a < c
    after a b c f g = omega arith

pub falls_to-more : (k sum next : ℕ) (values : List ℕ) → FallsTo k values → sum ≡ sum_of_shifted k values → next ≡ sum_of_shifted (k + 1) values
    → next + length values < sum → FallsTo (k + 1) values
falls_to-more k sum next values falls at_k at_next shorter =
    let step : split_values_length (k + 1) values < split_values_length k values = omega arith in
    falls_to-next k values falls step

-- a bound of the sum of values, by their high parts and what their low bits can add
sum_of_shifted-whole : (k : ℕ) (values : List ℕ) → sum_of_shifted 0 values + length values ≤ sum_of_shifted k values * 2 ^ k + length values * 2 ^ k
sum_of_shifted-whole k [] = omega arith
sum_of_shifted-whole k (v ∷ values) =
    let rest = sum_of_shifted-whole k values in
    let now = sum_by-cons (λ (u : ℕ). u / 2 ^ k) v values in
    let whole = sum_by-cons (λ (u : ℕ). u / 2 ^ 0) v values in
    let quotient : v < v / 2 ^ k * 2 ^ k + 2 ^ k = lt-div-mul-add (pow_pos k) in
    let sums : (v / 2 ^ k + sum_of_shifted k values) * 2 ^ k ≡ v / 2 ^ k * 2 ^ k + sum_of_shifted k values * 2 ^ k = add-mul _ _ _ in
    let counts : (1 + length values) * 2 ^ k ≡ 1 * 2 ^ k + length values * 2 ^ k = add-mul _ _ _ in
    let one_more : length (v ∷ values) ≡ 1 + length values = omega arith in
    let all_sums = ap (λ (n : ℕ). n * 2 ^ k) now ∙ sums in
    let all_counts = ap (λ (n : ℕ). n * 2 ^ k) one_more ∙ counts in
    omega arith

-- if the values add up to more than 3 * 2 ^ k times their number, k + 1 makes them shorter
longer_before : (k : ℕ) (values : List ℕ) → 3 * length values * 2 ^ k < sum_of_shifted 0 values
    → split_values_length (k + 1) values < split_values_length k values
longer_before k values past =
    let whole = sum_of_shifted-whole k values in
    let halved = sum_of_shifted-halved k values in
    let great : 2 * length values < sum_of_shifted k values =
    elim (cases_lt (2 * length values) (sum_of_shifted k values)) [
      | inl great ↦ great
      | inr small ↦ let product = mul-le-mul_right (2 ^ k) small in absurd (omega arith)
    ] in
    omega arith

pub falls_to-first : (first sum : ℕ) (values : List ℕ) → sum ≡ sum_of_shifted 0 values → ((j : ℕ) → j < first → 3 * length values * 2 ^ j < sum)
    → FallsTo first values
falls_to-first zero sum values is past = falls_to-none values
falls_to-first (suc k) sum values is past =
    let before = falls_to-first k sum values is (λ j h. past j (omega arith)) in
    subst (λ i. FallsTo i values) (omega arith)
    (falls_to-next k values before (longer_before k values (subst (λ t. 3 * length values * 2 ^ k < t) is (past k (omega arith)))))

-- if `most` shifted left by j has fewer bits than `sum`, it is less than `sum`
pub wider : (sum most j : ℕ) → sum < 2 ^ 64 → most < 2 ^ 64 → j < count_leading_zeros 64 most - count_leading_zeros 64 sum → most * 2 ^ j < sum
wider zero most j sum_fits fits before =
    let none = leading_of_zero 64 in
    let few = leading_le 64 most in
    absurd (omega arith)
wider (suc n) most j sum_fits fits before =
    let top = leading_top 64 (suc n) (omega arith) sum_fits in
    let digits = leading_length 64 most fits in
    let product : most * 2 ^ j < 2 ^ digits.0 * 2 ^ j = mul-lt-mul_of_pos_right digits.2 (pow_pos j) in
    let sum_of_powers : 2 ^ (digits.0 + j) ≡ 2 ^ digits.0 * 2 ^ j = pow-add 2 digits.0 j in
    let at_top = top.1 in
    let at_digits = digits.1 in
    let power : 2 ^ (digits.0 + j) ≤ 2 ^ top.0 = pow_mono (omega arith) in
    let least = top.2 in
    omega arith

-- shifted left until it has more bits than `sum`, `most` is at least `sum`
pub as_wide : (sum most : ℕ) → sum < 2 ^ 64 → most < 2 ^ 64 → 0 < most
    → sum ≤ most * 2 ^ (count_leading_zeros 64 most - count_leading_zeros 64 sum + 1)
as_wide sum most sum_fits fits some =
    let top = leading_top 64 most some fits in
    let digits = leading_length 64 sum sum_fits in
    let zeros = count_leading_zeros 64 most - count_leading_zeros 64 sum + 1 in
    let product : 2 ^ top.0 * 2 ^ zeros ≤ most * 2 ^ zeros = mul-le-mul_right (2 ^ zeros) top.2 in
    let sum_of_powers : 2 ^ (top.0 + zeros) ≡ 2 ^ top.0 * 2 ^ zeros = pow-add 2 top.0 zeros in
    let at_top = top.1 in
    let at_digits = digits.1 in
    let power : 2 ^ digits.0 ≤ 2 ^ (top.0 + zeros) = pow_mono (omega arith) in
    let below = digits.2 in
    omega arith

pub ruleset widths = (wider, as_wide, leading_le)

-- one more k whose bound is below the sum
pub one_more_past : (k sum count : ℕ) → ((j : ℕ) → j < k → 3 * count * 2 ^ j < sum) → 3 * count * 2 ^ k < sum
    → (j : ℕ) → j < k + 1 → 3 * count * 2 ^ j < sum
one_more_past k sum count before past j h =
    ⊎_elim (before j) (λ e. subst (λ i. 3 * count * 2 ^ i < sum) (omega arith) past) (cases_lt j k)

-- the bound holds also if there are no values
pub close_or_none : (sum count k : ℕ) → (count ≡ 0 → sum ≡ 0) → (0 < count → sum ≤ 3 * count * 2 ^ (k + 1)) → sum ≤ 3 * count * 2 ^ (k + 1)
close_or_none sum zero k none close = let empty = none refl in omega arith
close_or_none sum (suc n) k none close = close (omega arith)

pub sum_of_shifted-none : (values : List ℕ) → length values ≡ 0 → sum_of_shifted 0 values ≡ 0
sum_of_shifted-none [] none = refl
sum_of_shifted-none (v ∷ values) none = absurd (omega arith)

pub best-stopped : (options k sum next : ℕ) (values : List ℕ) → FallsTo k values → k < options → sum ≡ sum_of_shifted k values
    → next ≡ sum_of_shifted (k + 1) values → sum ≤ next + length values → IsBestSplit options k values
best-stopped options k sum next values falls within at_k at_next stop =
    record { within = within; before = falls; after = λ j later below. no_later k j values (omega arith) later }

-- the sum of the high parts, times 2^k, is at most the sum of the values
sum_of_shifted-product : (k : ℕ) (values : List ℕ) → sum_of_shifted k values * 2 ^ k ≤ sum_of_shifted 0 values
sum_of_shifted-product k [] = omega arith
sum_of_shifted-product k (v ∷ values) =
    let rest = sum_of_shifted-product k values in
    let now = sum_by-cons (λ (u : ℕ). u / 2 ^ k) v values in
    let whole = sum_by-cons (λ (u : ℕ). u / 2 ^ 0) v values in
    let quotient : v / 2 ^ k * 2 ^ k ≤ v = div-mul-le_self v (2 ^ k) in
    let sums : (v / 2 ^ k + sum_of_shifted k values) * 2 ^ k ≡ v / 2 ^ k * 2 ^ k + sum_of_shifted k values * 2 ^ k = add-mul _ _ _ in
    let all_sums = ap (λ (n : ℕ). n * 2 ^ k) now ∙ sums in
    omega arith

pub sum_of_shifted-few : (k : ℕ) (values : List ℕ) → sum_of_shifted 0 values ≤ 3 * length values * 2 ^ k → sum_of_shifted k values ≤ 3 * length values
sum_of_shifted-few k values few = le_of_mul-le-mul_right (omega (arith, sum_of_shifted-product k values)) (pow_pos k)

-- for each j below k, the values add up to more than 3 * 2 ^ j times their number, so the search
-- may begin at k; it tries k, k + 1 and k + 2
abbrev pub Begins : ℕ → List ℕ → Type 0
Begins k values = (j : ℕ) → j < k → 3 * length values * 2 ^ j < sum_of_shifted 0 values

pub best-first : (k first second : ℕ) (values : List ℕ) → Begins k values → first ≡ sum_of_shifted k values
    → second ≡ sum_of_shifted (k + 1) values → first ≤ second + length values → (options : ℕ) → k + 2 < options → IsBestSplit options k values
best-first k first second values begins at_first at_second stop options within =
    best-stopped options k first second values (falls_to-first k (sum_of_shifted 0 values) values refl begins) (omega arith) at_first at_second stop

falls_to-second : (k first second : ℕ) (values : List ℕ) → Begins k values → first ≡ sum_of_shifted k values
    → second ≡ sum_of_shifted (k + 1) values → second + length values < first → FallsTo (k + 1) values
falls_to-second k first second values begins at_first at_second shorter =
    falls_to-more k first second values (falls_to-first k (sum_of_shifted 0 values) values refl begins) at_first at_second shorter

at_third : (k third : ℕ) (values : List ℕ) → third ≡ sum_of_shifted (k + 2) values → third ≡ sum_of_shifted (k + 1 + 1) values
at_third k third values is = is ∙ ap (λ i. sum_of_shifted i values) (omega arith)

pub best-second : (k first second third : ℕ) (values : List ℕ) → Begins k values → first ≡ sum_of_shifted k values
    → second ≡ sum_of_shifted (k + 1) values → third ≡ sum_of_shifted (k + 2) values → second + length values < first
    → second ≤ third + length values → (options : ℕ) → k + 2 < options → IsBestSplit options (k + 1) values
best-second k first second third values begins at_first at_second is shorter stop options within =
    best-stopped options (k + 1) second third values (falls_to-second k first second values begins at_first at_second shorter) (omega arith)
    at_second (at_third k third values is) stop

pub best-third : (k first second third : ℕ) (values : List ℕ) → Begins k values → first ≡ sum_of_shifted k values
    → second ≡ sum_of_shifted (k + 1) values → third ≡ sum_of_shifted (k + 2) values → second + length values < first
    → third + length values < second → first ≤ 3 * length values → (options : ℕ) → k + 2 < options → IsBestSplit options (k + 2) values
best-third k first second third values begins at_first at_second is shorter again few options within =
    let two : k + 1 + 1 ≡ k + 2 = omega arith in
    let falls = falls_to-more (k + 1) second third values (falls_to-second k first second values begins at_first at_second shorter) at_second
    (at_third k third values is) again in
    let once = sum_of_shifted-halved k values in
    let twice = subst (λ i. 2 * sum_of_shifted i values ≤ sum_of_shifted (k + 1) values) two (sum_of_shifted-halved (k + 1) values) in
    let stop = little first second third (sum_of_shifted (k + 2 + 1) values) few (rw (at_first, at_second) once) (rw (at_second, is) twice) in
    best-stopped options (k + 2) third (sum_of_shifted (k + 2 + 1) values) values (subst (λ i. FallsTo i values) two falls) within is refl stop
  where
    little : (a b c d : ℕ) → a ≤ 3 * length values → 2 * b ≤ a → 2 * c ≤ b → c ≤ d + length values
    little a b c d h half quarter = omega arith

-- the best of three k is that of as many steps as make the values shorter
pub best-chosen : (k first second third best : ℕ) (values : List ℕ) → Begins k values → first ≡ sum_of_shifted k values
    → second ≡ sum_of_shifted (k + 1) values → third ≡ sum_of_shifted (k + 2) values → first ≤ 3 * length values
    → (one next : Bool) → one ≡ nat_lt (second + length values) first → next ≡ nat_lt (third + length values) second
    → best ≡ k + bool_byte one + bool_byte (one && next) → (options : ℕ) → k + 2 < options → IsBestSplit options best values
best-chosen k first second third best values begins at_first at_second at_third few false next shorter again steps options within =
    let stop : first ≤ second + length values = grind (arith, nat_tests) in
    subst (λ j. IsBestSplit options j values) (omega (arith, steps))
    (best-first k first second values begins at_first at_second stop options within)
best-chosen k first second third best values begins at_first at_second at_third few true false shorter again steps options within =
    let more : second + length values < first = grind (arith, nat_tests) in
    let stop : second ≤ third + length values = grind (arith, nat_tests) in
    subst (λ j. IsBestSplit options j values) (omega (arith, steps))
    (best-second k first second third values begins at_first at_second at_third more stop options within)
best-chosen k first second third best values begins at_first at_second at_third few true true shorter again steps options within =
    let more : second + length values < first = grind (arith, nat_tests) in
    let twice : third + length values < second = grind (arith, nat_tests) in
    subst (λ j. IsBestSplit options j values) (omega (arith, steps))
    (best-third k first second third values begins at_first at_second at_third more twice few options within)
