-- A sample and its pattern of n bits: code computes each from the other.
use Rattle.std.proofs.Common.{◌≡◌, ℕ, zero, suc, ◌+◌, ◌-◌, ◌*◌, ◌^◌, ◌%◌, ◌<◌, ◌≤◌, refl, ap, ◌∙◌, sym, arith, IsTrue}
use Rattle.std.proofs.lemmas.Nat.{pow-add, pow_pos, mod_low, one_shl}
use Rattle.std.proofs.lemmas.Bool.{and_parts, and_from, cond-true, cond-false, leb-true, leb-false, le-leb, lt-leb}
use Rattle.std.proofs.lemmas.Int.{ints, to_z-of_z}
use Rattle.std.proofs.Math.Nat.{mod-eq_of_lt, pow-le-pow_right}
use Rattle.std.specs.Prelude.{ℤ, pos, negsuc, neg_ℤ, int_le, nat_le, ◌-ℤ◌, Bool, true, false, if◌then◌else◌, ◌&&◌}
use mir.Val.{SFits, to_z, of_z}
use Rattle.std.specs.Int.{cast_unsigned, w64}
use Rattle.aec_params.specs.declared.settings.Settings.{Settings}
use Rattle.aec_params.specs.Params.{IsAllowed, IsHeld, x_max, sample_pattern, pattern_value}

-- half of 2 ^ n is 2 ^ (n - 1)
pub pow-halves : (n : ℕ) → 1 ≤ n → 2 ^ n ≡ 2 ^ (n - 1) + 2 ^ (n - 1)
pow-halves n h =
    let e : 1 + (n - 1) ≡ n = omega arith in
    let p = pow-add 2 1 (n - 1) in
    let q : 2 ^ (1 + (n - 1)) ≡ 2 ^ n = ap (λ (k : ℕ). 2 ^ k) e in
    omega (arith, p, q)

pub bits-least : (s : Settings) → IsAllowed s → 1 ≤ s.bits
bits-least s a = let b = a.bits in grind arith

pub bits-greatest : (s : Settings) → IsAllowed s → s.bits ≤ 32
bits-greatest s a = let b = a.bits in grind arith

pub values-most : (s : Settings) → IsAllowed s → 2 ^ s.bits ≤ 2 ^ 32
values-most s a = pow-le-pow_right {n = 2} (omega arith) {i = s.bits} {j = 32} (bits-greatest s a)

-- k below (g + 1) * t is t - k above g * t
take_from_high : (g t k : ℕ) → k ≤ t → (g + 1) * t - k ≡ g * t + (t - k)
take_from_high g t k below = omega arith

-- the low n bits of a negative number of 64 bits
pub low_bits-negative : (n m : ℕ) → n ≤ 64 → m < 2 ^ n → (2 ^ 64 - (m + 1)) % 2 ^ n ≡ 2 ^ n - (m + 1)
low_bits-negative n m h below =
    let e : (64 - n) + n ≡ 64 = omega arith in
    let whole : 2 ^ 64 ≡ 2 ^ (64 - n) * 2 ^ n = ap (λ (k : ℕ). 2 ^ k) (sym e) ∙ pow-add 2 (64 - n) n in
    let high : 1 ≤ 2 ^ (64 - n) = pow_pos (64 - n) in
    let one_more : 2 ^ (64 - n) ≡ (2 ^ (64 - n) - 1) + 1 = omega arith in
    let within : m + 1 ≤ 2 ^ n = omega arith in
    let split : 2 ^ 64 - (m + 1) ≡ (2 ^ (64 - n) - 1) * 2 ^ n + (2 ^ n - (m + 1)) =
    ap (λ (k : ℕ). k - (m + 1)) whole ∙ ap (λ (k : ℕ). k * 2 ^ n - (m + 1)) one_more ∙ take_from_high (2 ^ (64 - n) - 1) (2 ^ n) (m + 1) within in
    let low : 2 ^ n - (m + 1) < 2 ^ n = omega arith in
    ap (λ (k : ℕ). k % 2 ^ n) split ∙ mod_low (2 ^ (64 - n) - 1) n (2 ^ n - (m + 1)) low

-- if -(m + 1) is at least -k, m is below k
above-negated : (k m : ℕ) → int_le (neg_ℤ (pos k)) (negsuc m) ≡ true → m < k
above-negated zero m h = absurd (cc)
above-negated (suc k) m h = let e = leb-true m k h in omega arith

-- if a negative sample -(m + 1) is held, samples are signed and m is below k, half of the range
negative-at : (signed : Bool) (k m : ℕ) (top : ℤ)
    → IsTrue (int_le (if signed then neg_ℤ (pos k) else pos 0) (negsuc m) && int_le (negsuc m) top) → (signed ≡ true) × (m < k)
negative-at false k m top h = absurd (cc)
negative-at true k m top h = (refl, above-negated k m (and_parts (int_le (neg_ℤ (pos k)) (negsuc m)) (int_le (negsuc m) top) h).0)

pub held-negative : (s : Settings) (m : ℕ) → IsHeld s (negsuc m) → (s.signed ≡ true) × (m < 2 ^ (s.bits - 1))
held-negative s m h = negative-at s.signed (2 ^ (s.bits - 1)) m (x_max s) h

-- a held sample m of 0 or more is below t, the size of the range, and if signed below k, half of t
positive-at : (signed : Bool) (k t m : ℕ) → 0 < k → t ≡ k + k
    → IsTrue (int_le (if signed then neg_ℤ (pos k) else pos 0) (pos m) && int_le (pos m) (if signed then pos (k - 1) else pos (t - 1)))
    → (m < t) × ((signed && nat_le k m) ≡ false)
positive-at false k t m some e h =
    let most = leb-true m (t - 1) (and_parts (int_le (pos 0) (pos m)) (int_le (pos m) (pos (t - 1))) h).1 in
    (omega arith, refl)
positive-at true k t m some e h =
    let most = leb-true m (k - 1) (and_parts (int_le (neg_ℤ (pos k)) (pos m)) (int_le (pos m) (pos (k - 1))) h).1 in
    (omega arith, lt-leb k m (omega arith))

pub held-positive : (s : Settings) (m : ℕ) → IsAllowed s → IsHeld s (pos m)
    → (m < 2 ^ s.bits) × ((s.signed && nat_le (2 ^ (s.bits - 1)) m) ≡ false)
held-positive s m a h =
    positive-at s.signed (2 ^ (s.bits - 1)) (2 ^ s.bits) m (pow_pos (s.bits - 1)) (pow-halves s.bits (bits-least s a)) h

-- the low n bits of a held sample are its pattern
pub low_bits-pattern : (s : Settings) (x : ℤ) → IsAllowed s → IsHeld s x → cast_unsigned w64 x % 2 ^ s.bits ≡ sample_pattern s x
low_bits-pattern s (pos m) a h = mod-eq_of_lt (held-positive s m a h).0
low_bits-pattern s (negsuc m) a h =
    let halves = pow-halves s.bits (bits-least s a) in
    let few = bits-greatest s a in
    let low = (held-negative s m h).1 in
    let next : suc m ≡ m + 1 = omega arith in
    ap (λ (k : ℕ). (2 ^ 64 - k) % 2 ^ s.bits) next ∙ low_bits-negative s.bits m (omega arith) (omega arith)

-- the low b bits of a sample with the bits u, as code computes them
pub low_bits-code : (x : ℤ) (u b : ℕ) → SFits w64 x → u ≡ cast_unsigned w64 (to_z w64 (cast_unsigned w64 x)) → b < 64
    → u % (1 * 2 ^ b % 2 ^ 64) ≡ cast_unsigned w64 x % 2 ^ b
low_bits-code x u b fits e few =
    ap (λ (k : ℕ). u % k) (one_shl b 64 few) ∙ ap (λ (k : ℕ). k % 2 ^ b) (e ∙ ap (cast_unsigned w64) (to_z-of_z w64 x fits))

-- these low bits are the pattern of a held sample, if b is the bits per sample
pub low_bits-held : (s : Settings) (x : ℤ) (u b : ℕ) → IsAllowed s → IsHeld s x → SFits w64 x
    → u ≡ cast_unsigned w64 (to_z w64 (cast_unsigned w64 x)) → b ≡ s.bits → u % (1 * 2 ^ b % 2 ^ 64) ≡ sample_pattern s x
low_bits-held s x u b a h fits e width =
    let few = bits-greatest s a in
    ap (λ (k : ℕ). u % (1 * 2 ^ k % 2 ^ 64)) width ∙ low_bits-code x u s.bits fits e (omega arith) ∙ low_bits-pattern s x a h

-- with signed samples the pattern t - (m + 1), in the upper half of t, means -(m + 1)
value-at : (signed : Bool) (k t m : ℕ) → t ≡ k + k → signed ≡ true → m < k
    → (if signed && nat_le k (t - (m + 1)) then pos (t - (m + 1)) -ℤ pos t else pos (t - (m + 1))) ≡ negsuc m
value-at signed k t m e negative low =
    let test : nat_le k (t - (m + 1)) ≡ true = le-leb k (t - (m + 1)) (omega arith) in
    cond-true (signed && nat_le k (t - (m + 1))) (pos (t - (m + 1)) -ℤ pos t) (pos (t - (m + 1))) (and_from signed (nat_le k (t - (m + 1))) negative test)
    ∙ omega (arith, ints)

-- a held sample is the value of its pattern
pub value-pattern : (s : Settings) (x : ℤ) → IsAllowed s → IsHeld s x → pattern_value s (sample_pattern s x) ≡ x
value-pattern s (pos m) a h =
    cond-false (s.signed && nat_le (2 ^ (s.bits - 1)) m) (pos m -ℤ pos (2 ^ s.bits)) (pos m) (held-positive s m a h).1
value-pattern s (negsuc m) a h =
    let held = held-negative s m h in
    value-at s.signed (2 ^ (s.bits - 1)) (2 ^ s.bits) m (pow-halves s.bits (bits-least s a)) held.0 held.1

-- u - t, as code computes it for a pattern u in the upper half of t patterns
negative-code : (u t : ℕ) → u < t → t ≤ 2 ^ 32 → to_z w64 (of_z w64 (to_z w64 (of_z w64 (pos u)) -ℤ to_z w64 t)) ≡ negsuc (t - (u + 1))
negative-code u t low few = omega (arith, ints)

pub value-negative : (s : Settings) (x : ℤ) (u b : ℕ) → IsAllowed s → u < 2 ^ s.bits → x ≡ pos u → b ≡ s.bits
    → to_z w64 (of_z w64 (to_z w64 (of_z w64 x) -ℤ to_z w64 (1 * 2 ^ b % 2 ^ 64))) ≡ negsuc (2 ^ s.bits - (u + 1))
value-negative s x u b a low is width =
    let few = bits-greatest s a in
    ap (λ (y : ℤ). to_z w64 (of_z w64 (to_z w64 (of_z w64 y) -ℤ to_z w64 (1 * 2 ^ b % 2 ^ 64)))) is
    ∙ ap (λ (k : ℕ). to_z w64 (of_z w64 (to_z w64 (of_z w64 (pos u)) -ℤ to_z w64 (1 * 2 ^ k % 2 ^ 64)))) width
    ∙ ap (λ (k : ℕ). to_z w64 (of_z w64 (to_z w64 (of_z w64 (pos u)) -ℤ to_z w64 k))) (one_shl s.bits 64 (omega arith))
    ∙ negative-code u (2 ^ s.bits) low (values-most s a)

below-zero : (t u : ℕ) → u < t → pos u -ℤ pos t ≡ negsuc (t - (u + 1))
below-zero t u low = omega (arith, ints)

pub pattern-negative : (s : Settings) (u : ℕ) → u < 2 ^ s.bits → (s.signed && nat_le (2 ^ (s.bits - 1)) u) ≡ true
    → negsuc (2 ^ s.bits - (u + 1)) ≡ pattern_value s u
pattern-negative s u low test =
    sym (below-zero (2 ^ s.bits) u low) ∙ sym (cond-true (s.signed && nat_le (2 ^ (s.bits - 1)) u) (pos u -ℤ pos (2 ^ s.bits)) (pos u) test)

pub undone-negative : (t u : ℕ) → u < t → t - (t - (u + 1) + 1) ≡ u
undone-negative t u low = omega arith

from-negative : (signed : Bool) (k m t : ℕ) → signed ≡ true → m < k
    → IsTrue (int_le (if signed then neg_ℤ (pos k) else pos 0) (negsuc m) && int_le (negsuc m) (if signed then pos (k - 1) else pos (t - 1)))
from-negative false k m t e low = absurd (cc)
from-negative true zero m t e low = absurd (omega arith)
from-negative true (suc k) m t e low = and_from (int_le (neg_ℤ (pos (suc k))) (negsuc m)) true (le-leb m k (omega arith)) refl

-- the negative sample of a pattern in the upper half is held
pub negative-held : (s : Settings) (u : ℕ) → IsAllowed s → u < 2 ^ s.bits → (s.signed && nat_le (2 ^ (s.bits - 1)) u) ≡ true
    → IsHeld s (negsuc (2 ^ s.bits - (u + 1)))
negative-held s u a low test =
    let parts = and_parts s.signed (nat_le (2 ^ (s.bits - 1)) u) test in
    let high = leb-true (2 ^ (s.bits - 1)) u parts.1 in
    let halves = pow-halves s.bits (bits-least s a) in
    from-negative s.signed (2 ^ (s.bits - 1)) (2 ^ s.bits - (u + 1)) (2 ^ s.bits) parts.0 (omega arith)

from-positive : (signed : Bool) (k t u : ℕ) → u < t → (signed && nat_le k u) ≡ false
    → IsTrue (int_le (if signed then neg_ℤ (pos k) else pos 0) (pos u) && int_le (pos u) (if signed then pos (k - 1) else pos (t - 1)))
from-positive false k t u low test =
    and_from (int_le (pos 0) (pos u)) (int_le (pos u) (pos (t - 1))) (le-leb 0 u (omega arith)) (le-leb u (t - 1) (omega arith))
from-positive true zero t u low test = let less = leb-false zero u test in absurd (omega arith)
from-positive true (suc k) t u low test =
    let less = leb-false (suc k) u test in
    and_from (int_le (neg_ℤ (pos (suc k))) (pos u)) (int_le (pos u) (pos (suc k - 1))) refl (le-leb u (suc k - 1) (omega arith))

-- the sample of any other pattern is held
pub positive-held : (s : Settings) (u : ℕ) → u < 2 ^ s.bits → (s.signed && nat_le (2 ^ (s.bits - 1)) u) ≡ false → IsHeld s (pos u)
positive-held s u low test = from-positive s.signed (2 ^ (s.bits - 1)) (2 ^ s.bits) u low test

positive-code : (u : ℕ) → u < 2 ^ 32 → to_z w64 (of_z w64 (pos u)) ≡ pos u
positive-code u low = omega (arith, ints)

pub value-positive : (s : Settings) (x : ℤ) (u : ℕ) → IsAllowed s → u < 2 ^ s.bits → x ≡ pos u → to_z w64 (of_z w64 x) ≡ pos u
value-positive s x u a low is =
    let most = values-most s a in
    ap (λ (y : ℤ). to_z w64 (of_z w64 y)) is ∙ positive-code u (omega arith)

pub pattern-positive : (s : Settings) (u : ℕ) → (s.signed && nat_le (2 ^ (s.bits - 1)) u) ≡ false → pos u ≡ pattern_value s u
pattern-positive s u test = sym (cond-false (s.signed && nat_le (2 ^ (s.bits - 1)) u) (pos u -ℤ pos (2 ^ s.bits)) (pos u) test)

pub ruleset patterns = (low_bits-pattern, value-pattern, values-most)
