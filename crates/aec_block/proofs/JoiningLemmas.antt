-- Values joined from their high parts and their lowest bits.
use Rattle.std.proofs.Common.{◌≡◌, ℕ, zero, suc, ◌+◌, ◌-◌, ◌*◌, ◌/◌, ◌%◌, ◌^◌, ◌<◌, ◌≤◌, Bool, true, false, ◌&&◌, nat_lt, List, [], ◌∷◌, length, set, get_or, refl, ap, ◌∙◌, add-one, inl, inr, arith}
use Rattle.std.proofs.lemmas.Bool.{lt-ltb, le-ltb, ltb-true, ltb-false, and_cases, and_right}
use Rattle.std.proofs.lemmas.Nat.{pow_pos, pow-add, mul-le}
use Rattle.std.proofs.Math.Nat.{div-mul-le_self, lt_of_mul-lt-mul_right, lt-div-mul-add, mod-eq_of_lt}
use Rattle.aec_bits.specs.BitReader.{AreBelow}
use Rattle.aec_block.specs.ReadAt.{joined_values}
use Rattle.aec_block.specs.Gathering.{all_below}

-- ---- bounds of one value

power_parts : (m k : ℕ) → k ≤ m → 2 ^ m ≡ 2 ^ (m - k) * 2 ^ k
power_parts m k within = let whole : m ≡ m - k + k = omega arith in ap (λ n. 2 ^ n) whole ∙ pow-add 2 (m - k) k

-- for a limit of at most 2 ^ m, the high part of a smaller number is below 2 ^ (m - k)
pub high_part_lt : (m k limit high : ℕ) → k ≤ m → 0 < limit → limit ≤ 2 ^ m → high < (limit - 1) / 2 ^ k + 1 → high < 2 ^ (m - k)
high_part_lt m k limit high within some fits small =
    let parts = power_parts m k within in
    let grown = mul-le high (2 ^ k) ((limit - 1) / 2 ^ k) (2 ^ k) (omega arith) (omega arith) in
    let whole = div-mul-le_self (limit - 1) (2 ^ k) in
    lt_of_mul-lt-mul_right (2 ^ k) (omega arith)

pub joined_lt : (m k high low : ℕ) → k ≤ m → high < 2 ^ (m - k) → low < 2 ^ k → high * 2 ^ k + low < 2 ^ m
joined_lt m k high low within small below =
    let parts = power_parts m k within in
    let grown = mul-le (high + 1) (2 ^ k) (2 ^ (m - k)) (2 ^ k) (omega arith) (omega arith) in
    omega arith

-- a high part below 2 ^ (32 - k) loses no bit if it is shifted
pub shifted_whole : (k high low : ℕ) → k < 32 → high < 2 ^ (32 - k) → low < 2 ^ k → high * 2 ^ k % 2 ^ 32 ≡ high * 2 ^ k
shifted_whole k high low shift small below =
    let fits = joined_lt 32 k high low (omega arith) small below in
    mod-eq_of_lt (omega arith)

-- ---- bounds of lists

both_hold : (a b : Bool) → (a && b) ≡ true → (a ≡ true) × (b ≡ true)
both_hold true true e = (refl, refl)
both_hold true false e = absurd (cc)
both_hold false b e = absurd (cc)

pub below-from_test : (limit : ℕ) (values : List ℕ) → all_below limit values ≡ true → AreBelow limit values
below-from_test limit [] all = tt
below-from_test limit (v ∷ values) all =
    let both = both_hold (nat_lt v limit) (all_below limit values) all in (ltb-true v limit both.0, below-from_test limit values both.1)

pub test-from_below : (limit : ℕ) (values : List ℕ) → AreBelow limit values → all_below limit values ≡ true
test-from_below limit [] all = refl
test-from_below limit (v ∷ values) all = rw (lt-ltb v limit all.0, test-from_below limit values all.1) refl

-- for a limit of at most 2 ^ m, the high parts of smaller numbers are below 2 ^ (m - k)
pub highs_below : (m k limit : ℕ) (highs : List ℕ) → k ≤ m → 0 < limit → limit ≤ 2 ^ m → AreBelow ((limit - 1) / 2 ^ k + 1) highs
    → AreBelow (2 ^ (m - k)) highs
highs_below m k limit [] within some fits all = tt
highs_below m k limit (high ∷ highs) within some fits all =
    (high_part_lt m k limit high within some fits all.0, highs_below m k limit highs within some fits all.1)

pub joined_below : (m k : ℕ) (highs lows : List ℕ) → k ≤ m → AreBelow (2 ^ (m - k)) highs → AreBelow (2 ^ k) lows
    → AreBelow (2 ^ m) (joined_values k highs lows)
joined_below m k [] lows within small below = tt
joined_below m k (high ∷ highs) [] within small below = tt
joined_below m k (high ∷ highs) (low ∷ lows) within small below =
    (joined_lt m k high low within small.0 below.0, joined_below m k highs lows within small.1 below.1)

-- a high part that is too large makes a value that is too large
too_high : (limit k high low : ℕ) → 0 < limit → (limit - 1) / 2 ^ k + 1 ≤ high → limit ≤ high * 2 ^ k + low
too_high limit k high low some large =
    let above = lt-div-mul-add {a = limit - 1} {b = 2 ^ k} (pow_pos k) in
    let grown = mul-le ((limit - 1) / 2 ^ k + 1) (2 ^ k) high (2 ^ k) large (omega arith) in
    omega arith

pub high_fails : (limit k : ℕ) (highs lows : List ℕ) → 0 < limit → length highs ≡ length lows
    → all_below ((limit - 1) / 2 ^ k + 1) highs ≡ false → all_below limit (joined_values k highs lows) ≡ false
high_fails limit k [] lows some same fails = absurd (cc)
high_fails limit k (high ∷ highs) [] some same fails = absurd (omega arith)
high_fails limit k (high ∷ highs) (low ∷ lows) some same fails =
    let high_limit = (limit - 1) / 2 ^ k + 1 in
    elim (and_cases (nat_lt high high_limit) (all_below high_limit highs) fails) [
      | inl first ↦ rw (le-ltb (high * 2 ^ k + low) limit (too_high limit k high low some (ltb-false high high_limit first))) refl
      | inr later ↦ and_right (nat_lt (high * 2 ^ k + low) limit) (all_below limit (joined_values k highs lows))
          (high_fails limit k highs lows some (omega arith) later)
    ]

-- ---- one after the other

-- the high parts, the first i of them joined with their low bits
abbrev pub joined_front : ℕ → ℕ → List ℕ → List ℕ → List ℕ
joined_front k zero highs lows = highs
joined_front k (suc i) [] lows = []
joined_front k (suc i) (high ∷ highs) [] = high ∷ highs
joined_front k (suc i) (high ∷ highs) (low ∷ lows) = (high * 2 ^ k + low) ∷ joined_front k i highs lows

pub length-joined_front : (k i : ℕ) (highs lows : List ℕ) → length (joined_front k i highs lows) ≡ length highs
length-joined_front k zero highs lows = refl
length-joined_front k (suc i) [] lows = refl
length-joined_front k (suc i) (high ∷ highs) [] = refl
length-joined_front k (suc i) (high ∷ highs) (low ∷ lows) = ap (λ n. suc n) (length-joined_front k i highs lows)

-- the next number is still a high part
pub get_or-joined_front : (k i d : ℕ) (highs lows : List ℕ) → get_or (joined_front k i highs lows) i d ≡ get_or highs i d
get_or-joined_front k zero d highs lows = refl
get_or-joined_front k (suc i) d [] lows = refl
get_or-joined_front k (suc i) d (high ∷ highs) [] = refl
get_or-joined_front k (suc i) d (high ∷ highs) (low ∷ lows) = get_or-joined_front k i d highs lows

pub set-joined_front : (k i d e : ℕ) (highs lows : List ℕ) → i < length highs → i < length lows
    → set (joined_front k i highs lows) i (get_or highs i d * 2 ^ k + get_or lows i e) ≡ joined_front k (suc i) highs lows
set-joined_front k zero d e [] lows inside inside_lows = absurd (omega arith)
set-joined_front k zero d e (high ∷ highs) [] inside inside_lows = absurd (omega arith)
set-joined_front k zero d e (high ∷ highs) (low ∷ lows) inside inside_lows = refl
set-joined_front k (suc i) d e [] lows inside inside_lows = absurd (omega arith)
set-joined_front k (suc i) d e (high ∷ highs) [] inside inside_lows = absurd (omega arith)
set-joined_front k (suc i) d e (high ∷ highs) (low ∷ lows) inside inside_lows =
    ap (λ l. (high * 2 ^ k + low) ∷ l) (set-joined_front k i d e highs lows (omega arith) (omega arith))

pub joined_front-next : (k i v : ℕ) (values highs lows : List ℕ) → values ≡ joined_front k i highs lows → i < length values
    → length highs ≡ length lows → v ≡ get_or values i 0 * 2 ^ k + get_or lows i 0 → set values i v ≡ joined_front k (i + 1) highs lows
joined_front-next k i v values highs lows is inside same whole =
    let long = length-joined_front k i highs lows in
    let within : i < length highs = omega (arith, ap length is) in
    let here : get_or values i 0 ≡ get_or highs i 0 = ap (λ l. get_or l i 0) is ∙ get_or-joined_front k i 0 highs lows in
    rw (whole, here, is, add-one i) (set-joined_front k i 0 0 highs lows within (omega arith))

pub below-at : (limit i : ℕ) (values : List ℕ) → AreBelow limit values → i < length values → get_or values i 0 < limit
below-at limit i [] all inside = absurd (omega arith)
below-at limit zero (v ∷ values) all inside = all.0
below-at limit (suc i) (v ∷ values) all inside = below-at limit i values all.1 (omega arith)

pub joined_front-high : (limit k i : ℕ) (values highs lows : List ℕ) → values ≡ joined_front k i highs lows → i < length values
    → AreBelow limit highs → get_or values i 0 < limit
joined_front-high limit k i values highs lows is inside all =
    let within : i < length highs = omega (arith, ap length is, length-joined_front k i highs lows) in
    rw (is, get_or-joined_front k i 0 highs lows) (below-at limit i highs all within)

pub joined_front-all : (k i : ℕ) (highs lows : List ℕ) → length highs ≡ length lows → length highs ≤ i
    → joined_front k i highs lows ≡ joined_values k highs lows
joined_front-all k zero [] lows same past = refl
joined_front-all k zero (high ∷ highs) lows same past = absurd (omega arith)
joined_front-all k (suc i) [] lows same past = refl
joined_front-all k (suc i) (high ∷ highs) [] same past = absurd (omega arith)
joined_front-all k (suc i) (high ∷ highs) (low ∷ lows) same past =
    ap (λ l. (high * 2 ^ k + low) ∷ l) (joined_front-all k i highs lows (omega arith) (omega arith))
