-- The mapping table of integers is the table of offsets from the least sample.
use Rattle.std.proofs.Common.{◌≡◌, ℕ, zero, suc, ◌+◌, ◌-◌, ◌*◌, ◌^◌, ◌<◌, ◌≤◌, min, ap, ◌∙◌, sym, inl, inr, arith, Bool, true, false}
use Rattle.std.proofs.lemmas.Bool.{and_parts, and_from, cases_lt, cond-true, cond-false}
use Rattle.std.proofs.lemmas.Nat.{pow_pos}
use Rattle.std.proofs.lemmas.Bool.Decides.{nat_tests}
use Rattle.std.proofs.lemmas.Int.{ints, clamps}
use Rattle.std.specs.Prelude.{ℤ, pos, negsuc, neg_ℤ, ◌+ℤ◌, ◌-ℤ◌, ◌≤ℤ◌, unsigned_abs, int_le, nat_le, if◌then◌else◌}
use Rattle.std.specs.Int.{int_min}
use Rattle.aec_params.specs.declared.settings.Settings.{Settings}
use Rattle.aec_params.specs.Params.{IsAllowed, IsHeld, x_min, x_max, sample_pattern, pattern_value}
use Rattle.aec_params.specs.Mapping.{room_around, mapped_error, mapped_value}
use Rattle.aec_params.proofs.ParamsLemmas.{pow-halves, bits-least, values-most, value-pattern}
use Rattle.aec_block.specs.Offsets.{sample_offset, top_offset, offset_room, mapped_offset}

-- the room around the prediction, by offsets
room-offsets : (lo hi p : ℤ) (a top : ℕ) → p ≡ lo +ℤ pos a → hi ≡ lo +ℤ pos top → a ≤ top
    → int_min (p -ℤ lo) (hi -ℤ p) ≡ pos (min a (top - a))
room-offsets lo hi p a top at_a at_top below = omega (arith, ints, clamps)

-- the mapped value of an error of 0 or more
mapped_error-above : (t k : ℕ) → mapped_error (pos t) (pos k) ≡ (if nat_le k t then 2 * k else t + k)
mapped_error-above zero k = grind (arith, nat_tests)
mapped_error-above (suc t) k = grind (arith, nat_tests)

-- the mapped value of an error below 0
mapped_error-below : (t k : ℕ) → mapped_error (pos t) (negsuc k) ≡ (if nat_le (k + 1) t then 2 * (k + 1) - 1 else t + (k + 1))
mapped_error-below zero k = grind (arith, nat_tests)
mapped_error-below (suc t) k = grind (arith, nat_tests)

-- the mapped value by offsets from lo instead of integers
mapped_error-up : (a b top : ℕ) → a ≤ b → mapped_error (pos (offset_room top a)) (pos (b - a)) ≡ mapped_offset top a b
mapped_error-up a b top up = mapped_error-above (offset_room top a) (b - a) ∙ grind (arith, nat_tests)

mapped_error-down : (a b top : ℕ) → b < a → mapped_error (pos (offset_room top a)) (negsuc (a - b - 1)) ≡ mapped_offset top a b
mapped_error-down a b top down = mapped_error-below (offset_room top a) (a - b - 1) ∙ grind (arith, nat_tests)

mapped_error-at : (t e : ℤ) (a b top : ℕ) → t ≡ pos (offset_room top a) → e +ℤ pos a ≡ pos b → mapped_error t e ≡ mapped_offset top a b
mapped_error-at t e a b top room at_b =
    elim (cases_lt b a) [
      | inl down ↦ let is : e ≡ negsuc (a - b - 1) = omega (arith, ints) in ap (λ (d : ℤ). mapped_error t d) is
          ∙ ap (λ (r : ℤ). mapped_error r (negsuc (a - b - 1))) room ∙ mapped_error-down a b top down
      | inr up ↦ let is : e ≡ pos (b - a) = omega (arith, ints) in ap (λ (d : ℤ). mapped_error t d) is
          ∙ ap (λ (r : ℤ). mapped_error r (pos (b - a))) room ∙ mapped_error-up a b top up
    ]

pub mapped_error-offsets : (lo hi p x : ℤ) (a b top : ℕ) → p ≡ lo +ℤ pos a → x ≡ lo +ℤ pos b → hi ≡ lo +ℤ pos top → a ≤ top
    → mapped_error (int_min (p -ℤ lo) (hi -ℤ p)) (x -ℤ p) ≡ mapped_offset top a b
mapped_error-offsets lo hi p x a b top at_a at_b at_top below =
    mapped_error-at (int_min (p -ℤ lo) (hi -ℤ p)) (x -ℤ p) a b top (room-offsets lo hi p a top at_a at_top below) (omega (arith, ints))

-- a number of at least lo is lo plus its offset
at-offset : (lo x : ℤ) → lo ≤ℤ x → x ≡ lo +ℤ pos (unsigned_abs (x -ℤ lo))
at-offset lo x h = grind (arith, ints)

-- the greatest sample is t - 1 above the least; t is the number of values, and k half of it
greatest-offset : (signed : Bool) (k t : ℕ) → 0 < k → t ≡ k + k
    → (if signed then pos (k - 1) else pos (t - 1)) ≡ (if signed then neg_ℤ (pos k) else pos 0) +ℤ pos (t - 1)
greatest-offset false k t some e = omega (arith, ints)
greatest-offset true k t some e = omega (arith, ints)

x_max-offset : (s : Settings) → IsAllowed s → x_max s ≡ x_min s +ℤ pos (top_offset s)
x_max-offset s a =
    greatest-offset s.signed (2 ^ (s.bits - 1)) (2 ^ s.bits) (pow_pos (s.bits - 1)) (pow-halves s.bits (bits-least s a))

-- a held sample lies between the least and the greatest
pub held-between : (s : Settings) (x : ℤ) → IsHeld s x → (x_min s ≤ℤ x) × (x ≤ℤ x_max s)
held-between s x h =
    let parts = and_parts (int_le (x_min s) x) (int_le x (x_max s)) h in
    (grind (arith, ints, parts.0), grind (arith, ints, parts.1))

-- a held sample is the least sample plus its offset
pub sample-offset : (s : Settings) (x : ℤ) → IsHeld s x → x ≡ x_min s +ℤ pos (sample_offset s x)
sample-offset s x h = at-offset (x_min s) x (held-between s x h).0

pub sample_offset-le : (s : Settings) (x : ℤ) → IsAllowed s → IsHeld s x → sample_offset s x ≤ top_offset s
sample_offset-le s x a h =
    let at_top = x_max-offset s a in
    let at_x = sample-offset s x h in
    let most = (held-between s x h).1 in
    omega (arith, ints)

pub mapped_value-offsets : (s : Settings) (p x : ℤ) → IsAllowed s → s.preprocess ≡ true → IsHeld s p → IsHeld s x
    → mapped_value s p x ≡ mapped_offset (top_offset s) (sample_offset s p) (sample_offset s x)
mapped_value-offsets s p x a on held_p held_x =
    cond-true s.preprocess (mapped_error (room_around s p) (x -ℤ p)) (sample_pattern s x) on
    ∙ mapped_error-offsets (x_min s) (x_max s) p x (sample_offset s p) (sample_offset s x) (top_offset s) (sample-offset s p held_p)
    (sample-offset s x held_x) (x_max-offset s a) (sample_offset-le s p a held_p)

-- a number between the least and the greatest sample is held
held-from_between : (s : Settings) (x : ℤ) → x_min s ≤ℤ x → x ≤ℤ x_max s → IsHeld s x
held-from_between s x low high = and_from (int_le (x_min s) x) (int_le x (x_max s)) (grind (arith, ints)) (grind (arith, ints))

pub held-offset : (s : Settings) (x : ℤ) (k : ℕ) → IsAllowed s → k ≤ top_offset s → x ≡ x_min s +ℤ pos k → IsHeld s x
held-offset s x k a below is =
    let at_top = x_max-offset s a in
    held-from_between s x (omega (arith, ints)) (omega (arith, ints))

pub ruleset offsets = (sample-offset, sample_offset-le, values-most, held-offset)

pub values-some : (s : Settings) → 0 < 2 ^ s.bits
values-some s = pow_pos s.bits

pub mapped_value-pattern : (s : Settings) (p x : ℤ) → s.preprocess ≡ false → mapped_value s p x ≡ sample_pattern s x
mapped_value-pattern s p x off = cond-false s.preprocess (mapped_error (room_around s p) (x -ℤ p)) (sample_pattern s x) off

-- the mapped value, as code computes it from offsets
pub mapped_value-code : (s : Settings) (p x : ℤ) (top a b r : ℕ) → IsAllowed s → s.preprocess ≡ true → IsHeld s p → IsHeld s x
    → top ≡ top_offset s → a ≡ sample_offset s p → b ≡ sample_offset s x → mapped_offset top a b ≡ r → mapped_value s p x ≡ r
mapped_value-code s p x top a b r allowed on held_p held_x at_top at_a at_b is =
    let e = mapped_value-offsets s p x allowed on held_p held_x in cc

-- held samples with equal offsets are equal
same-offset : (s : Settings) (x y : ℤ) → IsHeld s x → IsHeld s y → sample_offset s x ≡ sample_offset s y → x ≡ y
same-offset s x y held_x held_y e =
    sample-offset s x held_x ∙ ap (λ (k : ℕ). x_min s +ℤ pos k) e ∙ sym (sample-offset s y held_y)

pub only-offset : (s : Settings) (p x y : ℤ) (top a b m : ℕ) → IsAllowed s → s.preprocess ≡ true → IsHeld s p → IsHeld s x → IsHeld s y
    → top ≡ top_offset s → a ≡ sample_offset s p → sample_offset s y ≡ b
    → ((k : ℕ) → k ≤ top → mapped_offset top a k ≡ m → k ≡ b) → mapped_value s p x ≡ m → x ≡ y
only-offset s p x y top a b m allowed on held_p held_x held_y at_top at_a at_b only is =
    let e = mapped_value-offsets s p x allowed on held_p held_x in
    let below = sample_offset-le s x allowed held_x in
    let same : sample_offset s x ≡ b = only (sample_offset s x) (omega arith) (cc) in
    same-offset s x y held_x held_y (cc)

-- without preprocessing, held samples with equal patterns are equal
pub only-pattern : (s : Settings) (p x y : ℤ) (m : ℕ) → IsAllowed s → s.preprocess ≡ false → IsHeld s x → IsHeld s y
    → sample_pattern s y ≡ m → mapped_value s p x ≡ m → x ≡ y
only-pattern s p x y m allowed off held_x held_y at_y is =
    let e = mapped_value-pattern s p x off in
    let same : sample_pattern s x ≡ sample_pattern s y = cc in
    sym (value-pattern s x allowed held_x) ∙ ap (pattern_value s) same ∙ value-pattern s y allowed held_y

pub ruleset mapping = (values-some, mapped_value-pattern)
