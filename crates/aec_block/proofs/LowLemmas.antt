-- Values for which at least as many offsets lie above the prediction: one that isn't near is the
-- offset for which it is coded.
use Rattle.std.proofs.Common.{◌≡◌, ℕ, ◌+◌, ◌-◌, ◌*◌, ◌/◌, ◌%◌, ◌<◌, ◌≤◌, List, [], ◌∷◌, length, drop, get_or, arith, subst, sym, ap, ◌∙◌, refl, inl, inr, drop-cons, add-one}
use Rattle.std.specs.Simd.Lanes.{sum_l, Each1}
use Rattle.std.proofs.lemmas.Bool.{cases_lt}
use Rattle.std.proofs.lemmas.Bool.Decides.{nat_tests}
use Rattle.std.proofs.lemmas.Simd.{sum_bound, Each1-from_get_or}
use Rattle.aec_params.specs.declared.settings.Settings.{Settings}
use Rattle.aec_params.specs.Params.{IsAllowed}
use Rattle.aec_params.proofs.ParamsLemmas.{values-most}
use Rattle.aec_block.specs.Offsets.{top_offset, offset_room, near_offset, near_difference, low_offset, low_offsets, mapped_offset, AreUnmapped}
use Rattle.aec_block.proofs.MappingLemmas.{values-some}
use Rattle.aec_block.proofs.NearLemmas.{near_offset-difference, mapped_offset-near, offset-fits, AreUnmapped-cons}

-- a value that isn't near is its own offset
mapped_offset-far : (top p m : ℕ) → p + m ≤ top → 2 * p < m → mapped_offset top p m ≡ m
mapped_offset-far top p m low far = grind (arith, nat_tests)

low_offset-far : (p m : ℕ) → 2 * p < m → low_offset p m ≡ m
low_offset-far p m far = grind (arith, nat_tests)

low_room : (top p m : ℕ) → p + m ≤ top → m ≤ 2 * p → m ≤ 2 * offset_room top p
low_room top p m low near = grind (arith, nat_tests)

low_offset-near : (top p m : ℕ) → top < 4294967296 → p + m ≤ top → m ≤ 2 * p → low_offset p m ≡ near_offset p m
low_offset-near top p m small low near =
    let test : low_offset p m ≡ (p + near_difference m) % 4294967296 = grind (arith, nat_tests) in
    test ∙ near_offset-difference top p m (near_difference m) small (omega (arith, low)) (low_room top p m low near) refl

-- a value leads upwards by at most itself
low_step : (top p m : ℕ) → top < 4294967296 → p + m ≤ top → (low_offset p m ≤ p + m) × (mapped_offset top p (low_offset p m) ≡ m)
low_step top p m small low =
    elim (cases_lt (2 * p) m) [
      | inl far ↦ let is = low_offset-far p m far in (
        omega (arith, is),
        ap (mapped_offset top p) is ∙ mapped_offset-far top p m low far,
      )
      | inr near ↦
          let is = low_offset-near top p m small low near in
          let most : near_offset p m ≤ p + m = grind (arith, nat_tests) in (
            omega (arith, is, most),
            ap (mapped_offset top p) is ∙ mapped_offset-near top p m (omega (arith, low)) (low_room top p m low near),
          )
    ]

-- each prediction is at most the first one and the sum of the values before it
low_offsets-unmapped : (top p : ℕ) (values : List ℕ) → top < 4294967296 → p + sum_l values ≤ top → AreUnmapped top p values (low_offsets p values)
low_offsets-unmapped top p [] small low = record { within = tt; mapped = refl }
low_offsets-unmapped top p (m ∷ values) small low =
    let step = low_step top p m small (omega (arith, low)) in
    AreUnmapped-cons top p m (low_offset p m) values (low_offsets (low_offset p m) values) (omega (arith, low, step.0)) step.1
    (low_offsets-unmapped top (low_offset p m) values small (omega (arith, low, step.0)))

pub low_eight : (s : Settings) (p top : ℕ) (values : List ℕ) → IsAllowed s → top ≡ top_offset s → length values ≡ 8
    → ((i : ℕ) → i < 8 → p + 8 * get_or values i 0 ≤ top) → AreUnmapped (top_offset s) p values (low_offsets p values)
low_eight s p top values allowed is long each =
    let small : top < 4294967296 = omega (arith, values-most s allowed, values-some s, is) in
    let bound : ℕ = (top - p) / 8 in
    let all : Each1 (λ v. v ≤ bound) values =
    Each1-from_get_or (λ v. v ≤ bound) values 0 (λ i here. omega (arith, each i (omega (arith, here, long)))) in
    let most : sum_l values ≤ bound * 8 = subst (λ (n : ℕ). sum_l values ≤ bound * n) long (sum_bound bound values all) in
    subst (λ (t : ℕ). AreUnmapped t p values (low_offsets p values)) is
    (low_offsets-unmapped top p values small (omega (arith, most, each 0 (omega arith))))

-- the next of low offsets, and the ones after it
pub low_offsets-next : (s : Settings) (p x : ℕ) (values : List ℕ) (i : ℕ) → IsAllowed s → i < length values → x ≡ low_offset p (get_or values i 0)
    → AreUnmapped (top_offset s) p (drop i values) (low_offsets p (drop i values))
    → (x ≤ top_offset s) × (x < 4294967296) × (mapped_offset (top_offset s) p x ≡ get_or values i 0)
    × AreUnmapped (top_offset s) x (drop (i + 1) values) (low_offsets x (drop (i + 1) values))
low_offsets-next s p x values i allowed here is are =
    let top : ℕ = top_offset s in
    let v : ℕ = get_or values i 0 in
    let rest : List ℕ = drop (i + 1) values in
    let cut : drop i values ≡ v ∷ rest = rw (add-one, drop-cons values i 0 here) refl in
    let joined : AreUnmapped top p (v ∷ rest) (low_offset p v ∷ low_offsets (low_offset p v) rest) =
    subst (λ (vs : List ℕ). AreUnmapped top p vs (low_offsets p vs)) cut are in
    let named : AreUnmapped top p (v ∷ rest) (x ∷ low_offsets x rest) =
    subst (λ (y : ℕ). AreUnmapped top p (v ∷ rest) (y ∷ low_offsets y rest)) (sym is) joined in (
      named.within.0,
      offset-fits s x allowed named.within.0,
      ap (λ (vs : List ℕ). get_or vs 0 0) named.mapped,
      record { within = named.within.1; mapped = ap (drop 1) named.mapped },
    )
