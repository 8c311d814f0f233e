-- Near values: the offsets that their differences lead to, what a bound for all of them proves, and
-- that a near value is the mapped value of its offset.
use Rattle.std.proofs.Common.{◌≡◌, ℕ, suc, ◌+◌, ◌-◌, ◌*◌, ◌%◌, ◌<◌, ◌≤◌, List, [], ◌∷◌, ◌++◌, length, map, take, drop, get_or, arith, subst, sym, ap, ap₂, ◌∙◌, refl, drop-cons, add-one}
use Rattle.std.proofs.Math.Seq.{take-add}
use Rattle.std.proofs.lemmas.List.{length-drop}
use Rattle.std.proofs.lemmas.Bool.Decides.{nat_tests}
use Rattle.aec_params.specs.declared.settings.Settings.{Settings}
use Rattle.aec_params.specs.Params.{IsAllowed}
use Rattle.aec_params.proofs.ParamsLemmas.{values-most}
use Rattle.aec_block.specs.Offsets.{top_offset, offset_room, near_offset, near_difference, mapped_offset, places_before, places_after, AreNear, AreUnmapped}
use Rattle.aec_block.proofs.MappingLemmas.{values-some}
use Rattle.aec_block.proofs.EightOffsetsLemmas.{length-mapped_offsets}

-- the offset that a difference leads to, modulo 2^32
pub near_offset-difference : (top p m d : ℕ) → top < 4294967296 → p ≤ top → m ≤ 2 * offset_room top p → d ≡ near_difference m
    → (p + d) % 4294967296 ≡ near_offset p m
near_offset-difference top p m d small within near is = grind (arith, nat_tests)

pub near_offset-le : (top p m : ℕ) → p ≤ top → m ≤ 2 * offset_room top p → near_offset p m ≤ top
near_offset-le top p m within near = grind (arith, nat_tests)

pub mapped_offset-near : (top p m : ℕ) → p ≤ top → m ≤ 2 * offset_room top p → mapped_offset top p (near_offset p m) ≡ m
mapped_offset-near top p m within near = grind (arith, nat_tests)

-- values are near if each value whose place is an offset is near at this place
pub AreNear-at_places : (top p : ℕ) (values : List ℕ) → top < 4294967296 → p ≤ top
    → ((i : ℕ) → i < length values → get_or (places_before p (map near_difference values)) i 0 ≤ top
    → get_or values i 0 ≤ 2 * offset_room top (get_or (places_before p (map near_difference values)) i 0))
    → AreNear top p values
AreNear-at_places top p [] small within each = tt
AreNear-at_places top p (m ∷ values) small within each =
    let near : m ≤ 2 * offset_room top p = each 0 (omega arith) within in
    let next : (p + near_difference m) % 4294967296 ≡ near_offset p m = near_offset-difference top p m (near_difference m) small within near refl in
    let below : (p + near_difference m) % 4294967296 ≤ top = subst (λ (q : ℕ). q ≤ top) (sym next) (near_offset-le top p m within near) in (
      near,
      subst (λ (q : ℕ). AreNear top q values) next
          (AreNear-at_places top ((p + near_difference m) % 4294967296) values small below (λ i later. each (suc i) (omega (arith, later)))),
    )

-- eight values are near if each is near at its place
pub AreNear-eight : (s : Settings) (p top : ℕ) (values before differences : List ℕ) → IsAllowed s → top ≡ top_offset s → p ≤ top_offset s → length values ≡ 8
    → differences ≡ map near_difference values → before ≡ places_before p differences
    → ((i : ℕ) → i < 8 → get_or before i 0 ≤ top → get_or values i 0 ≤ 2 * offset_room top (get_or before i 0))
    → AreNear (top_offset s) p values
AreNear-eight s p top values before differences allowed is within long all places each =
    let small : top < 4294967296 = omega (arith, values-most s allowed, values-some s, is) in
    let at : before ≡ places_before p (map near_difference values) = places ∙ ap (places_before p) all in
    subst (λ (t : ℕ). AreNear t p values) is
    (AreNear-at_places top p values small (omega (arith, is, within))
    (λ i here. subst (λ (xs : List ℕ). get_or xs i 0 ≤ top → get_or values i 0 ≤ 2 * offset_room top (get_or xs i 0)) at (each i (omega (arith, here, long)))))

-- one more value in front, with its offset
pub AreUnmapped-cons : (top p m x : ℕ) (values offsets : List ℕ) → x ≤ top → mapped_offset top p x ≡ m → AreUnmapped top x values offsets
    → AreUnmapped top p (m ∷ values) (x ∷ offsets)
AreUnmapped-cons top p m x values offsets below is rest = record { within = (below, rest.within); mapped = ap₂ ◌∷◌ is rest.mapped }

-- the offsets of near values are the places that their differences lead to
near_places : (top p : ℕ) (values : List ℕ) → top < 4294967296 → p ≤ top → AreNear top p values
    → AreUnmapped top p values (places_after p (map near_difference values))
near_places top p [] small within near = record { within = tt; mapped = refl }
near_places top p (m ∷ values) small within near =
    let q : ℕ = near_offset p m in
    let next : (p + near_difference m) % 4294967296 ≡ q = near_offset-difference top p m (near_difference m) small within near.0 refl in
    let below : q ≤ top = near_offset-le top p m within near.0 in
    subst (λ (x : ℕ). AreUnmapped top p (m ∷ values) (x ∷ places_after x (map near_difference values))) (sym next)
    (AreUnmapped-cons top p m q values (places_after q (map near_difference values)) below (mapped_offset-near top p m within near.0)
    (near_places top q values small below near.1))

pub near_places-eight : (s : Settings) (p : ℕ) (values differences places : List ℕ) → IsAllowed s → p ≤ top_offset s → AreNear (top_offset s) p values
    → differences ≡ map near_difference values → places ≡ places_after p differences → AreUnmapped (top_offset s) p values places
near_places-eight s p values differences places allowed within near all led =
    let small : top_offset s < 4294967296 = omega (arith, values-most s allowed, values-some s) in
    subst (AreUnmapped (top_offset s) p values) (sym (led ∙ ap (places_after p) all)) (near_places (top_offset s) p values small within near)

pub offset-fits : (s : Settings) (x : ℕ) → IsAllowed s → x ≤ top_offset s → x < 4294967296
offset-fits s x allowed below = omega (arith, below, values-most s allowed, values-some s)

-- the next offset, and the ones after it
pub AreUnmapped-next : (top p : ℕ) (values offsets : List ℕ) (i : ℕ) → i < length values → AreUnmapped top p (drop i values) (drop i offsets)
    → (get_or offsets i 0 ≤ top) × (mapped_offset top p (get_or offsets i 0) ≡ get_or values i 0)
    × AreUnmapped top (get_or offsets i 0) (drop (i + 1) values) (drop (i + 1) offsets)
AreUnmapped-next top p values offsets i here are =
    let there : i < length offsets =
    omega (arith, here, ap length are.mapped, length-mapped_offsets top p (drop i offsets), length-drop i values, length-drop i offsets) in
    let cut : drop i values ≡ get_or values i 0 ∷ drop (i + 1) values = rw (add-one, drop-cons values i 0 here) refl in
    let cut_offsets : drop i offsets ≡ get_or offsets i 0 ∷ drop (i + 1) offsets = rw (add-one, drop-cons offsets i 0 there) refl in
    let joined : AreUnmapped top p (get_or values i 0 ∷ drop (i + 1) values) (get_or offsets i 0 ∷ drop (i + 1) offsets) =
    subst (λ (xs : List ℕ). AreUnmapped top p (get_or values i 0 ∷ drop (i + 1) values) xs) cut_offsets
    (subst (λ (vs : List ℕ). AreUnmapped top p vs (drop i offsets)) cut are) in (
      joined.within.0,
      ap (λ (vs : List ℕ). get_or vs 0 0) joined.mapped,
      record { within = joined.within.1; mapped = ap (drop 1) joined.mapped },
    )

-- the first 8 * i values, and eight more
pub take-eight : (values : List ℕ) (i : ℕ) → take (8 * i) values ++ take (8 * i + 8 - 8 * i) (drop (8 * i) values) ≡ take (8 * (i + 1)) values
take-eight values i =
    let more : 8 * (i + 1) ≡ 8 * i + 8 = omega arith in
    let eight : 8 * i + 8 - 8 * i ≡ 8 = omega arith in
    rw (more, eight) (sym (take-add (8 * i) 8 values))
