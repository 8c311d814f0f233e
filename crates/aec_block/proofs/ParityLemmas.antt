-- Values of 0 and 1 at offsets of 0 and 1: a value of 1 leads to the other offset. So the offsets
-- are sums modulo 2, also of differences, since the difference -1 is as odd as its value 1.
use Rattle.std.proofs.Common.{◌≡◌, ℕ, zero, suc, ◌+◌, ◌%◌, ◌^◌, ◌<◌, ◌≤◌, List, [], ◌∷◌, length, map, get_or, arith, subst, sym, ap, ◌∙◌, refl}
use Rattle.std.proofs.lemmas.Bool.Decides.{nat_tests}
use Rattle.aec_params.specs.declared.settings.Settings.{Settings}
use Rattle.aec_params.specs.Params.{IsAllowed}
use Rattle.aec_params.proofs.ParamsLemmas.{bits-least}
use Rattle.std.proofs.Math.Nat.{pow-le-pow_right}
use Rattle.aec_block.specs.Offsets.{top_offset, mapped_offset, near_difference, places_after, AreUnmapped}
use Rattle.aec_block.proofs.NearLemmas.{AreUnmapped-cons}

-- the parity of the place that a difference leads to
parity-next : (p q m : ℕ) → p ≤ 1 → q % 2 ≡ p → m ≤ 1 → (q + near_difference m) % 4294967296 % 2 ≡ (p + m) % 2
parity-next p q zero bit odd small = omega (arith, bit, odd)
parity-next p q (suc zero) bit odd small = omega (arith, bit, odd)
parity-next p q (suc (suc m)) bit odd small = absurd (omega (arith, small))

-- each value of 0 or 1 is the mapped value of the offset that it leads to
mapped_offset-parity : (top p m : ℕ) → 1 ≤ top → p ≤ 1 → m ≤ 1 → mapped_offset top p ((p + m) % 2) ≡ m
mapped_offset-parity top zero zero some bit small = grind (arith, nat_tests)
mapped_offset-parity top zero (suc zero) some bit small = grind (arith, nat_tests)
mapped_offset-parity top (suc zero) zero some bit small = grind (arith, nat_tests)
mapped_offset-parity top (suc zero) (suc zero) some bit small = grind (arith, nat_tests)
mapped_offset-parity top (suc (suc p)) m some bit small = absurd (omega (arith, bit))
mapped_offset-parity top p (suc (suc m)) some bit small = absurd (omega (arith, small))

-- the offsets are the parities of the places that the differences lead to, from a place q of the
-- prediction's parity
parities-unmapped : (top p q : ℕ) (values : List ℕ) → 1 ≤ top → p ≤ 1 → q % 2 ≡ p → ((i : ℕ) → i < length values → get_or values i 0 ≤ 1)
    → AreUnmapped top p values (map (λ x. x % 2) (places_after q (map near_difference values)))
parities-unmapped top p q [] some bit odd small = record { within = tt; mapped = refl }
parities-unmapped top p q (m ∷ values) some bit odd small =
    let next : ℕ = (q + near_difference m) % 4294967296 in
    let one : m ≤ 1 = small 0 (omega arith) in
    let is : next % 2 ≡ (p + m) % 2 = parity-next p q m bit odd one in
    let below : next % 2 ≤ 1 = omega arith in
    AreUnmapped-cons top p m (next % 2) values _ (omega (arith, below, some))
    (ap (mapped_offset top p) is ∙ mapped_offset-parity top p m some bit one)
    (parities-unmapped top (next % 2) next values some below refl (λ i here. small (suc i) (omega (arith, here))))

pub parities-eight : (s : Settings) (p : ℕ) (values differences places parities : List ℕ) → IsAllowed s → p ≤ 1 → length values ≡ 8
    → ((i : ℕ) → i < 8 → get_or values i 0 ≤ 1) → differences ≡ map near_difference values → places ≡ places_after p differences
    → parities ≡ map (λ x. x % 2) places → AreUnmapped (top_offset s) p values parities
parities-eight s p values differences places parities allowed bit long small all led odd =
    let some : 1 ≤ top_offset s = omega (arith, two-most s allowed) in
    subst (AreUnmapped (top_offset s) p values) (sym (odd ∙ ap (λ (xs : List ℕ). map (λ x. x % 2) xs) (led ∙ ap (places_after p) all)))
    (parities-unmapped (top_offset s) p p values some bit (omega (arith, bit)) (λ i here. small i (omega (arith, here, long))))
  where
    two-most : (s : Settings) → IsAllowed s → 2 ≤ 2 ^ s.bits
    two-most s allowed = pow-le-pow_right {n = 2} (omega arith) {i = 1} {j = s.bits} (bits-least s allowed)
