-- At each prediction, the mapping is one-to-one between the samples and the values below 2^n.
use Rattle.std.proofs.Common.{◌≡◌, ℕ, zero, suc, ◌+◌, ◌-◌, ◌*◌, ◌/◌, ◌%◌, ◌^◌, ◌<◌, ◌≤◌, min, Bool, true, false, cond, leb, ltb, ◌&&◌, ℤ, pos, negsuc, refl, ap, sym, ◌∙◌, subst, arith, inl, inr, ⊎_elim, ◌⊎◌}
use Rattle.std.specs.Prelude.{◌-ℤ◌, ◌+ℤ◌, neg_ℤ, nat_abs, int_le, if◌then◌else◌}
use Rattle.std.proofs.lemmas.Bool.{cases_lt, and_parts, and_from, le-leb, le-ltb, and_right}
use Rattle.std.proofs.lemmas.Bool.Decides.{nat_tests}
use Rattle.std.proofs.lemmas.Nat.{pow_pos}
use Rattle.std.proofs.Math.Nat.{pow-suc}
use Rattle.std.proofs.lemmas.Int.{ints, clamps}
use Rattle.std.specs.Int.{int_min}
use Rattle.aec_params.proofs.SettingLaws.{at_least_one_bit}
use Rattle.aec_params.specs.declared.settings.Settings.{Settings}
use Rattle.aec_params.specs.Params.{IsAllowed, IsHeld, x_min, x_max}
use Rattle.aec_params.specs.Mapping.{room_around, mapped_error}

-- ---- differences as natural numbers, with t the smaller of the places below and above

-- the value of the difference e; `below`: the value of the difference -(e + 1)
abbrev above : ℕ → ℕ → ℕ
above t e = cond (leb e t) (2 * e) (t + e)

abbrev below : ℕ → ℕ → ℕ
below t e = cond (leb (suc e) t) (2 * suc e - 1) (t + suc e)

mapped_error-pos : (t e : ℕ) → mapped_error (pos t) (pos e) ≡ above t e
mapped_error-pos t e =
    let no : (int_le (neg_ℤ (pos t)) (pos e) && ltb e 0) ≡ false = and_right (int_le (neg_ℤ (pos t)) (pos e)) (ltb e 0) (le-ltb e 0 (omega arith)) in
    rw (le-leb 0 e (omega arith), no) refl

mapped_error-negsuc : (t e : ℕ) → mapped_error (pos t) (negsuc e) ≡ below t e
mapped_error-negsuc zero e = grind (arith, nat_tests)
mapped_error-negsuc (suc t) e = grind (arith, nat_tests)

above-below : (low high e : ℕ) → e ≤ high → above (min low high) e < low + high + 1
above-below low high e h = grind (arith, nat_tests)

below-below : (low high e : ℕ) → e < low → below (min low high) e < low + high + 1
below-below low high e h = grind (arith, nat_tests)

above_apart : (low high e f : ℕ) → e ≤ high → f ≤ high → above (min low high) e ≡ above (min low high) f → e ≡ f
above_apart low high e f h k q = grind (arith, nat_tests)

below_apart : (low high e f : ℕ) → e < low → f < low → below (min low high) e ≡ below (min low high) f → e ≡ f
below_apart low high e f h k q = grind (arith, nat_tests)

both_apart : (low high e f : ℕ) → e ≤ high → f < low → above (min low high) e ≡ below (min low high) f → ⊥
both_apart low high e f h k q = grind (arith, nat_tests)

-- m is the value of a difference of at most `high` upwards or `low` downwards
HasDifference : ℕ → ℕ → ℕ → Type 0
HasDifference low high m =
    ((e : ℕ) × (e ≤ high) × (above (min low high) e ≡ m)) ⊎ ((e : ℕ) × (e < low) × (below (min low high) e ≡ m))

near_above : (low high m : ℕ) → m % 2 ≡ 0 → m ≤ 2 * min low high → (m / 2 ≤ high) × (above (min low high) (m / 2) ≡ m)
near_above low high m e h = (omega arith, grind (arith, nat_tests))

near_below : (low high m : ℕ) → m % 2 ≡ 1 → m ≤ 2 * min low high → (m / 2 < low) × (below (min low high) (m / 2) ≡ m)
near_below low high m e h = (omega arith, grind (arith, nat_tests))

far_above : (low high m : ℕ) → m < low + high + 1 → 2 * min low high < m → low < high
    → (m - low ≤ high) × (above (min low high) (m - low) ≡ m)
far_above low high m h k l = (omega arith, grind (arith, nat_tests))

far_below : (low high m : ℕ) → m < low + high + 1 → 2 * min low high < m → high ≤ low
    → (m - high - 1 < low) × (below (min low high) (m - high - 1) ≡ m)
far_below low high m h k l = (omega arith, grind (arith, nat_tests))

two_remainders : (m : ℕ) → (m % 2 ≡ 0) ⊎ (m % 2 ≡ 1)
two_remainders m = grind arith

difference_of : (low high m : ℕ) → m < low + high + 1 → HasDifference low high m
unfolding HasDifference
difference_of low high m h =
    ⊎_elim
    (λ (k : 2 * min low high < m). ⊎_elim
    (λ (l : low < high). let p = far_above low high m h k l in inl (m - low, p.0, p.1))
    (λ (l : high ≤ low). let p = far_below low high m h k l in inr (m - high - 1, p.0, p.1))
    (cases_lt low high))
    (λ (k : m ≤ 2 * min low high). ⊎_elim
    (λ (l : m % 2 ≡ 0). let p = near_above low high m l k in inl (m / 2, p.0, p.1))
    (λ (l : m % 2 ≡ 1). let p = near_below low high m l k in inr (m / 2, p.0, p.1))
    (two_remainders m))
    (cases_lt (2 * min low high) m)

-- a difference whose sample is in the range
abbrev IsWithin : ℕ → ℕ → ℤ → Type 0
IsWithin low high (pos e) = e ≤ high
IsWithin low high (negsuc e) = e < low

error-below : (low high : ℕ) (d : ℤ) → IsWithin low high d → mapped_error (pos (min low high)) d < low + high + 1
error-below low high (pos e) h = rw mapped_error-pos (above-below low high e h)
error-below low high (negsuc e) h = rw mapped_error-negsuc (below-below low high e h)

error_apart : (low high : ℕ) (d f : ℤ) → IsWithin low high d → IsWithin low high f
    → mapped_error (pos (min low high)) d ≡ mapped_error (pos (min low high)) f → d ≡ f
error_apart low high (pos e) (pos f) h k q =
    ap pos (above_apart low high e f h k (sym (mapped_error-pos (min low high) e) ∙ (q ∙ mapped_error-pos (min low high) f)))
error_apart low high (pos e) (negsuc f) h k q =
    absurd (both_apart low high e f h k (sym (mapped_error-pos (min low high) e) ∙ (q ∙ mapped_error-negsuc (min low high) f)))
error_apart low high (negsuc e) (pos f) h k q =
    absurd (both_apart low high f e k h (sym (mapped_error-pos (min low high) f) ∙ (sym q ∙ mapped_error-negsuc (min low high) e)))
error_apart low high (negsuc e) (negsuc f) h k q =
    ap negsuc (below_apart low high e f h k (sym (mapped_error-negsuc (min low high) e) ∙ (q ∙ mapped_error-negsuc (min low high) f)))

error-onto : (low high m : ℕ) → m < low + high + 1 → (d : ℤ) × IsWithin low high d × (mapped_error (pos (min low high)) d ≡ m)
unfolding HasDifference
error-onto low high m h =
    ⊎_elim
    (λ (p : (e : ℕ) × (e ≤ high) × (above (min low high) e ≡ m)). (pos p.0, p.1, mapped_error-pos (min low high) p.0 ∙ p.2))
    (λ (p : (e : ℕ) × (e < low) × (below (min low high) e ≡ m)). (negsuc p.0, p.1, mapped_error-negsuc (min low high) p.0 ∙ p.2))
    (difference_of low high m h)

-- ---- the room around a prediction

pub pow-half : (n : ℕ) → 1 ≤ n → 2 ^ n ≡ 2 ^ (n - 1) + 2 ^ (n - 1)
pow-half zero h = omega arith
pow-half (suc n) h = let e : suc n - 1 ≡ n = omega arith in rw e (omega (arith, pow-suc 2 n))

span_of : (b : Bool) (n : ℕ) → 1 ≤ n
    → (if b then pos (2 ^ (n - 1) - 1) else pos (2 ^ n - 1)) -ℤ (if b then neg_ℤ (pos (2 ^ (n - 1))) else pos 0) ≡ pos (2 ^ n - 1)
span_of true n h = omega (arith, ints, pow-half n h, pow_pos (n - 1))
span_of false n h = omega (arith, ints)

span : (s : Settings) → IsAllowed s → x_max s -ℤ x_min s ≡ pos (2 ^ s.bits - 1)
span s allowed = span_of s.signed s.bits (at_least_one_bit s allowed)

-- b - a, if a is at most b
gap : ℤ → ℤ → ℕ
gap a b = nat_abs (b -ℤ a)

gap-is : (a b : ℤ) → int_le a b ≡ true → b -ℤ a ≡ pos (gap a b)
unfolding gap
gap-is a b h = grind (arith, ints)

gaps-add : (a p b : ℤ) → int_le a p ≡ true → int_le p b ≡ true → b -ℤ a ≡ pos (gap a p + gap p b)
gaps-add a p b h k = omega (arith, ints, gap-is a p h, gap-is p b k)

int_min-pos : (a b : ℕ) → int_min (pos a) (pos b) ≡ pos (min a b)
int_min-pos a b = grind (arith, ints, clamps)

-- a held number lies between the least and the greatest sample
between : (s : Settings) (p : ℤ) → IsHeld s p → (int_le (x_min s) p ≡ true) × (int_le p (x_max s) ≡ true)
between s p held = and_parts (int_le (x_min s) p) (int_le p (x_max s)) held

-- how many samples are below the prediction p, and how many above it
record Places (s : Settings) (p : ℤ) (low high : ℕ) : Type 0 where
  down : p -ℤ x_min s ≡ pos low
  up : x_max s -ℤ p ≡ pos high
  all : low + high + 1 ≡ 2 ^ s.bits

places : (s : Settings) (p : ℤ) → IsAllowed s → IsHeld s p → Places s p (gap (x_min s) p) (gap p (x_max s))
places s p allowed held = let h = between s p held in record {
  down = gap-is (x_min s) p h.0;
  up = gap-is p (x_max s) h.1;
  all = let e = gaps-add (x_min s) p (x_max s) h.0 h.1 in let f = span s allowed in omega (arith, ints, pow_pos s.bits);
}

room : (s : Settings) (p : ℤ) (low high : ℕ) → Places s p low high → room_around s p ≡ pos (min low high)
room s p low high h = rw (h.down, h.up) (int_min-pos low high)

within_places : (s : Settings) (p x : ℤ) (low high : ℕ) → Places s p low high → IsHeld s x → (d : ℤ) → x -ℤ p ≡ d → IsWithin low high d
within_places s p x low high h held (pos e) q =
    let g = gap-is x (x_max s) (between s x held).1 in let u = h.up in omega (arith, ints)
within_places s p x low high h held (negsuc e) q =
    let g = gap-is (x_min s) x (between s x held).0 in let u = h.down in omega (arith, ints)

le_from_gap : (a b : ℤ) (g : ℕ) → b -ℤ a ≡ pos g → int_le a b ≡ true
le_from_gap a b g h = grind (arith, ints)

-- the prediction plus a difference within these places is a sample
held_from_difference : (s : Settings) (p : ℤ) (low high : ℕ) → Places s p low high → (d : ℤ) → IsWithin low high d → IsHeld s (p +ℤ d)
held_from_difference s p low high h (pos e) w =
    let u = h.up in let d = h.down in
    and_from (int_le (x_min s) (p +ℤ pos e)) (int_le (p +ℤ pos e) (x_max s))
    (le_from_gap (x_min s) (p +ℤ pos e) (low + e) (omega (arith, ints)))
    (le_from_gap (p +ℤ pos e) (x_max s) (high - e) (omega (arith, ints)))
held_from_difference s p low high h (negsuc e) w =
    let u = h.up in let d = h.down in
    and_from (int_le (x_min s) (p +ℤ negsuc e)) (int_le (p +ℤ negsuc e) (x_max s))
    (le_from_gap (x_min s) (p +ℤ negsuc e) (low - suc e) (omega (arith, ints)))
    (le_from_gap (p +ℤ negsuc e) (x_max s) (high + suc e) (omega (arith, ints)))

same_from_difference : (x y p : ℤ) → x -ℤ p ≡ y -ℤ p → x ≡ y
same_from_difference x y p e = omega (arith, ints)

-- ---- with preprocessing

pub error-fits : (s : Settings) (p x : ℤ) → IsAllowed s → IsHeld s p → IsHeld s x → mapped_error (room_around s p) (x -ℤ p) < 2 ^ s.bits
error-fits s p x allowed held held_x =
    let low = gap (x_min s) p in let high = gap p (x_max s) in
    let h = places s p allowed held in
    let w = within_places s p x low high h held_x (x -ℤ p) refl in
    subst (λ (t : ℕ). mapped_error (room_around s p) (x -ℤ p) < t) h.all
    (subst (λ (t : ℤ). mapped_error t (x -ℤ p) < low + high + 1) (sym (room s p low high h)) (error-below low high (x -ℤ p) w))

pub error-one_to_one : (s : Settings) (p x y : ℤ) → IsAllowed s → IsHeld s p → IsHeld s x → IsHeld s y
    → mapped_error (room_around s p) (x -ℤ p) ≡ mapped_error (room_around s p) (y -ℤ p) → x ≡ y
error-one_to_one s p x y allowed held held_x held_y e =
    let low = gap (x_min s) p in let high = gap p (x_max s) in
    let h = places s p allowed held in
    let w = within_places s p x low high h held_x (x -ℤ p) refl in
    let v = within_places s p y low high h held_y (y -ℤ p) refl in
    same_from_difference x y p (error_apart low high (x -ℤ p) (y -ℤ p) w v
    (ap (λ (t : ℤ). mapped_error t (x -ℤ p)) (sym (room s p low high h)) ∙ (e ∙ ap (λ (t : ℤ). mapped_error t (y -ℤ p)) (room s p low high h))))

pub error-reaches : (s : Settings) (p : ℤ) (m : ℕ) → IsAllowed s → IsHeld s p → m < 2 ^ s.bits
    → (x : ℤ) × IsHeld s x × (mapped_error (room_around s p) (x -ℤ p) ≡ m)
error-reaches s p m allowed held l =
    let low = gap (x_min s) p in let high = gap p (x_max s) in
    let h = places s p allowed held in
    let r = error-onto low high m (subst (λ (t : ℕ). m < t) (sym h.all) l) in
    let back : (p +ℤ r.0) -ℤ p ≡ r.0 = omega (arith, ints) in (
      p +ℤ r.0,
      held_from_difference s p low high h r.0 r.1,
      ap (λ (t : ℤ). mapped_error t ((p +ℤ r.0) -ℤ p)) (room s p low high h)
          ∙ (ap (λ (t : ℤ). mapped_error (pos (min low high)) t) back ∙ r.2),
    )
