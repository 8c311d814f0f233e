-- Patterns are one-to-one between the samples and the numbers below 2^n.
use Rattle.std.proofs.Common.{◌≡◌, ℕ, zero, suc, ◌-◌, ◌^◌, ◌<◌, ◌≤◌, Bool, true, false, ◌&&◌, ℤ, pos, negsuc, refl, ap, arith, ⊎_elim}
use Rattle.std.specs.Prelude.{neg_ℤ, int_le, if◌then◌else◌}
use Rattle.std.proofs.lemmas.Bool.{cases_lt, and_parts, and_from, le-leb, leb-true}
use Rattle.std.proofs.lemmas.Nat.{pow_pos}
use Rattle.aec_params.specs.declared.settings.Settings.{Settings}
use Rattle.aec_params.specs.Params.{IsAllowed, IsHeld, x_min, x_max, sample_pattern}
use Rattle.aec_params.proofs.SettingLaws.{at_least_one_bit}
use Rattle.aec_params.proofs.MappingLaws.{pow-half}

-- ---- held numbers by sign

abbrev lowest : Bool → ℕ → ℤ
lowest b n = if b then neg_ℤ (pos (2 ^ (n - 1))) else pos 0

abbrev highest : Bool → ℕ → ℤ
highest b n = if b then pos (2 ^ (n - 1) - 1) else pos (2 ^ n - 1)

abbrev pub HeldAs : Bool → ℕ → ℤ → Type 0
HeldAs true n (pos m) = m < 2 ^ (n - 1)
HeldAs true n (negsuc m) = m < 2 ^ (n - 1)
HeldAs false n (pos m) = m < 2 ^ n
HeldAs false n (negsuc m) = ⊥

above_negative : (h m : ℕ) → int_le (neg_ℤ (pos h)) (negsuc m) ≡ true → m < h
above_negative zero m e = absurd (cc)
above_negative (suc h) m e = let k = leb-true m h e in omega arith

negative_above : (h m : ℕ) → m < h → int_le (neg_ℤ (pos h)) (negsuc m) ≡ true
negative_above zero m l = absurd (omega arith)
negative_above (suc h) m l = le-leb m h (omega arith)

natural_above : (h m : ℕ) → int_le (neg_ℤ (pos h)) (pos m) ≡ true
natural_above zero m = le-leb 0 m (omega arith)
natural_above (suc h) m = refl

held_as : (b : Bool) (n : ℕ) (x : ℤ) → int_le (lowest b n) x ≡ true → int_le x (highest b n) ≡ true → HeldAs b n x
held_as true n (pos m) h k = let l = leb-true m (2 ^ (n - 1) - 1) k in omega (arith, pow_pos (n - 1))
held_as true n (negsuc m) h k = above_negative (2 ^ (n - 1)) m h
held_as false n (pos m) h k = let l = leb-true m (2 ^ n - 1) k in omega (arith, pow_pos n)
held_as false n (negsuc m) h k = absurd (cc)

held_from : (b : Bool) (n : ℕ) (x : ℤ) → HeldAs b n x → int_le (lowest b n) x && int_le x (highest b n) ≡ true
held_from true n (pos m) h =
    and_from (int_le (lowest true n) (pos m)) (int_le (pos m) (highest true n)) (natural_above (2 ^ (n - 1)) m) (le-leb m (2 ^ (n - 1) - 1) (omega arith))
held_from true n (negsuc m) h = and_from (int_le (lowest true n) (negsuc m)) true (negative_above (2 ^ (n - 1)) m h) refl
held_from false n (pos m) h =
    and_from (int_le (pos 0) (pos m)) (int_le (pos m) (highest false n)) (le-leb 0 m (omega arith)) (le-leb m (2 ^ n - 1) (omega arith))
held_from false n (negsuc m) h = absurd h

pub HeldAs-from_held : (s : Settings) (x : ℤ) → IsHeld s x → HeldAs s.signed s.bits x
HeldAs-from_held s x h = let p = and_parts (int_le (x_min s) x) (int_le x (x_max s)) h in held_as s.signed s.bits x p.0 p.1

-- ---- patterns

fits : (s : Settings) (b : Bool) (x : ℤ) → 1 ≤ s.bits → HeldAs b s.bits x → sample_pattern s x < 2 ^ s.bits
fits s true (pos m) l h = omega (arith, pow-half s.bits l)
fits s true (negsuc m) l h = omega (arith, pow_pos s.bits)
fits s false (pos m) l h = h
fits s false (negsuc m) l h = absurd h

one_to_one : (s : Settings) (b : Bool) (x y : ℤ) → 1 ≤ s.bits → HeldAs b s.bits x → HeldAs b s.bits y → sample_pattern s x ≡ sample_pattern s y → x ≡ y
one_to_one s b (pos m) (pos k) l h g e = ap pos e
one_to_one s true (pos m) (negsuc k) l h g e = absurd (omega (arith, pow-half s.bits l))
one_to_one s true (negsuc m) (pos k) l h g e = absurd (omega (arith, pow-half s.bits l))
one_to_one s true (negsuc m) (negsuc k) l h g e = ap negsuc (omega (arith, pow-half s.bits l))
one_to_one s false (pos m) (negsuc k) l h g e = absurd g
one_to_one s false (negsuc m) y l h g e = absurd h

reaches : (s : Settings) (b : Bool) (m : ℕ) → 1 ≤ s.bits → m < 2 ^ s.bits → (x : ℤ) × HeldAs b s.bits x × (sample_pattern s x ≡ m)
reaches s false m l h = (pos m, h, refl)
reaches s true m l h =
    ⊎_elim (λ (k : m < 2 ^ (s.bits - 1)). (pos m, k, refl))
    (λ (k : 2 ^ (s.bits - 1) ≤ m). (negsuc (2 ^ s.bits - m - 1), omega (arith, pow-half s.bits l), omega arith))
    (cases_lt m (2 ^ (s.bits - 1)))

pub pattern-fits : (s : Settings) (x : ℤ) → IsAllowed s → IsHeld s x → sample_pattern s x < 2 ^ s.bits
pattern-fits s x allowed h = fits s s.signed x (at_least_one_bit s allowed) (HeldAs-from_held s x h)

pub pattern-one_to_one : (s : Settings) (x y : ℤ) → IsAllowed s → IsHeld s x → IsHeld s y → sample_pattern s x ≡ sample_pattern s y → x ≡ y
pattern-one_to_one s x y allowed h k e = one_to_one s s.signed x y (at_least_one_bit s allowed) (HeldAs-from_held s x h) (HeldAs-from_held s y k) e

pub pattern-reaches : (s : Settings) (m : ℕ) → IsAllowed s → m < 2 ^ s.bits → (x : ℤ) × IsHeld s x × (sample_pattern s x ≡ m)
pattern-reaches s m allowed l =
    let r = reaches s s.signed m (at_least_one_bit s allowed) l in
    (r.0, held_from s.signed s.bits r.0 r.1, r.2)
