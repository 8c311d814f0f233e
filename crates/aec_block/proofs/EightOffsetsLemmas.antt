-- Eight offsets mapped in lanes.
use Rattle.std.proofs.Common.{◌≡◌, ℕ, zero, suc, ◌+◌, ◌-◌, ◌*◌, ◌%◌, ◌^◌, ◌<◌, ◌≤◌, refl, ap, ap₂, ◌∙◌, sym, subst, arith, append_assoc, length-drop, min, max, List, [], ◌∷◌, ◌++◌, length, map, take, drop, get_or, Bool, false, nat_lt, inl, inr}
use Rattle.std.specs.Simd.Lanes.{zip2, sel_l}
use Rattle.std.specs.Simd.Lanes.{top as lane_top}
use Rattle.std.specs.Prelude.{replicate, ◌⊎◌}
use Rattle.std.specs.List.{AllByRecursion}
use Rattle.std.proofs.lemmas.Bool.{cases_lt}
use Rattle.std.proofs.lemmas.Slice.{take-put_mid, drop-put_mid}
use borrow.Rule.Slice.PartMut.{put_mid, same_len_mid}
use Rattle.aec_block.proofs.ListMappingLemmas.{IsMappedSoFar}
use Rattle.std.proofs.lemmas.List.{take-append-drop, drop-drop, length-take-le, ext_get_or, get_or-take, get_or-replicate}
use Rattle.std.proofs.lemmas.Bool.Decides.{nat_tests}
use Rattle.std.proofs.lemmas.Simd.{length-zip2, get_or-zip2, get_or-sel_l, tops_compared}
use Rattle.aec_block.specs.Offsets.{offset_room, mapped_offset, mapped_offsets}
use mathlib.Core.Bool.{cond}
use mir.Syntax.{unsigned, w32, wrap_add, wrap_sub, lt, mask}
use borrow.Rule.Simd.Lanes.{act2}
use borrow.Table.Row.{s_int}

-- the first seven of eight numbers, after another number
pub shifted_list : (p : ℕ) (xs : List ℕ) → length xs ≡ 8
    → p ∷ get_or xs 0 0 ∷ get_or xs 1 0 ∷ get_or xs 2 0 ∷ get_or xs 3 0 ∷ get_or xs 4 0 ∷ get_or xs 5 0 ∷ get_or xs 6 0 ∷ [] ≡ p ∷ take 7 xs
shifted_list p (a ∷ b ∷ c ∷ d ∷ e ∷ f ∷ g ∷ h ∷ []) long = refl
shifted_list p [] long = absurd (omega arith)
shifted_list p (a ∷ []) long = absurd (omega arith)
shifted_list p (a ∷ b ∷ []) long = absurd (omega arith)
shifted_list p (a ∷ b ∷ c ∷ []) long = absurd (omega arith)
shifted_list p (a ∷ b ∷ c ∷ d ∷ []) long = absurd (omega arith)
shifted_list p (a ∷ b ∷ c ∷ d ∷ e ∷ []) long = absurd (omega arith)
shifted_list p (a ∷ b ∷ c ∷ d ∷ e ∷ f ∷ []) long = absurd (omega arith)
shifted_list p (a ∷ b ∷ c ∷ d ∷ e ∷ f ∷ g ∷ []) long = absurd (omega arith)
shifted_list p (a ∷ b ∷ c ∷ d ∷ e ∷ f ∷ g ∷ h ∷ i ∷ more) long = absurd (omega arith)

-- the lesser number of each lane
abbrev pub lesser_list : List ℕ → List ℕ → List ℕ
lesser_list xs ys = sel_l (map (lane_top 31) (zip2 (act2 (mask (lt unsigned)) (s_int w32) (s_int w32) (s_int w32)) xs ys)) xs ys

pub lesser_lane : (xs ys : List ℕ) → length xs ≡ 8 → length ys ≡ 8 → (i : ℕ) → i < 8
    → get_or (lesser_list xs ys) i 0 ≡ min (get_or xs i 0) (get_or ys i 0)
lesser_lane xs ys long_xs long_ys i within =
    let len_tests : length (zip2 nat_lt xs ys) ≡ 8 = length-zip2 nat_lt xs ys (long_xs ∙ sym long_ys) ∙ long_xs in
    let test : get_or (zip2 nat_lt xs ys) i false ≡ nat_lt (get_or xs i 0) (get_or ys i 0) = get_or-zip2 nat_lt xs ys i 0 0 false (omega arith) (omega arith) in
    ap (λ (ms : List Bool). get_or (sel_l ms xs ys) i 0) (tops_compared w32 nat_lt xs ys)
    ∙ get_or-sel_l (zip2 nat_lt xs ys) xs ys i 0 (omega arith) (omega arith) (omega arith)
    ∙ ap (λ (b : Bool). cond b (get_or xs i 0) (get_or ys i 0)) test
    ∙ lesser_one (get_or xs i 0) (get_or ys i 0)
  where
    lesser_one : (x y : ℕ) → cond (nat_lt x y) x y ≡ min x y
    lesser_one x y = grind (arith, nat_tests)

-- the greater number of each lane: the second if the first is less
pub greater_lane : (xs ys : List ℕ) → length xs ≡ 8 → length ys ≡ 8 → (i : ℕ) → i < 8
    → get_or (sel_l (map (lane_top 31) (zip2 (act2 (mask (lt unsigned)) (s_int w32) (s_int w32) (s_int w32)) xs ys)) ys xs) i 0
    ≡ max (get_or xs i 0) (get_or ys i 0)
greater_lane xs ys long_xs long_ys i within =
    let len_tests : length (zip2 nat_lt xs ys) ≡ 8 = length-zip2 nat_lt xs ys (long_xs ∙ sym long_ys) ∙ long_xs in
    let test : get_or (zip2 nat_lt xs ys) i false ≡ nat_lt (get_or xs i 0) (get_or ys i 0) = get_or-zip2 nat_lt xs ys i 0 0 false (omega arith) (omega arith) in
    ap (λ (ms : List Bool). get_or (sel_l ms ys xs) i 0) (tops_compared w32 nat_lt xs ys)
    ∙ get_or-sel_l (zip2 nat_lt xs ys) ys xs i 0 (omega arith) (omega arith) (omega arith)
    ∙ ap (λ (b : Bool). cond b (get_or ys i 0) (get_or xs i 0)) test
    ∙ greater_one (get_or xs i 0) (get_or ys i 0)
  where
    greater_one : (x y : ℕ) → cond (nat_lt x y) y x ≡ max x y
    greater_one x y = grind (arith, nat_tests)

-- the sum and the difference of each lane
pub sum_lane : (xs ys : List ℕ) → length xs ≡ 8 → length ys ≡ 8 → (i : ℕ) → i < 8
    → get_or (zip2 (act2 wrap_add (s_int w32) (s_int w32) (s_int w32)) xs ys) i 0 ≡ (get_or xs i 0 + get_or ys i 0) % 2 ^ 32
sum_lane xs ys long_xs long_ys i within =
    get_or-zip2 (act2 wrap_add (s_int w32) (s_int w32) (s_int w32)) xs ys i 0 0 0 (omega arith) (omega arith)

pub difference_lane : (xs ys : List ℕ) → length xs ≡ 8 → length ys ≡ 8 → (i : ℕ) → i < 8
    → get_or (zip2 (act2 wrap_sub (s_int w32) (s_int w32) (s_int w32)) xs ys) i 0 ≡ (get_or xs i 0 + (2 ^ 32 - get_or ys i 0)) % 2 ^ 32
difference_lane xs ys long_xs long_ys i within =
    get_or-zip2 (act2 wrap_sub (s_int w32) (s_int w32) (s_int w32)) xs ys i 0 0 0 (omega arith) (omega arith)

-- ---- one lane

abbrev lane_distance : ℕ → ℕ → ℕ
lane_distance p x = (max x p + (2 ^ 32 - min x p)) % 2 ^ 32

abbrev lane_below : ℕ → ℕ → ℕ
lane_below p x = min ((max x p + (2 ^ 32 - x)) % 2 ^ 32) 1

abbrev lane_reached : ℕ → ℕ → ℕ → ℕ
lane_reached top p x = min (lane_distance p x) ((offset_room top p + lane_below p x) % 2 ^ 32)

abbrev lane_mapped : ℕ → ℕ → ℕ → ℕ
lane_mapped top p x = ((lane_distance p x + lane_reached top p x) % 2 ^ 32 + (2 ^ 32 - lane_below p x)) % 2 ^ 32

-- the mapped value at distance d from the prediction: b is 1 below the prediction, else 0
abbrev from_distance : ℕ → ℕ → ℕ → ℕ
from_distance room d b = ((d + min d ((room + b) % 2 ^ 32)) % 2 ^ 32 + (2 ^ 32 - b)) % 2 ^ 32

lane-parts : (top p x d b : ℕ) → lane_distance p x ≡ d → lane_below p x ≡ b → lane_mapped top p x ≡ from_distance (offset_room top p) d b
lane-parts top p x d b at_d at_b = ap₂ (from_distance (offset_room top p)) at_d at_b

below-parts : (p x : ℕ) → x < p → p < 2 ^ 32 → (lane_distance p x ≡ p - x) × (lane_below p x ≡ 1)
below-parts p x less small =
    let most : max x p ≡ p = omega arith in
    let least : min x p ≡ x = omega arith in
    (omega (arith, most, least, less, small), omega (arith, most, less, small))

above-parts : (p x : ℕ) → p ≤ x → x < 2 ^ 32 → (lane_distance p x ≡ x - p) × (lane_below p x ≡ 0)
above-parts p x more small =
    let most : max x p ≡ x = omega arith in
    let least : min x p ≡ p = omega arith in
    (omega (arith, most, least, more, small), omega (arith, most, small))

room-bounds : (top p : ℕ) → p ≤ top → (offset_room top p + offset_room top p ≤ top) × ((offset_room top p ≡ p) ⊎ (offset_room top p ≡ top - p))
room-bounds top p within = elim (cases_lt p (top - p)) [
  | inl less ↦ (omega (arith, less, within), inl (omega (arith, less)))
  | inr more ↦ (omega (arith, more, within), inr (omega (arith, more)))
]

below-mapped : (top p x room : ℕ) → top < 2 ^ 32 → p ≤ top → x < p → room + room ≤ top → (room ≡ p) ⊎ (room ≡ top - p) → offset_room top p ≡ room
    → from_distance room (p - x) 1 ≡ mapped_offset top p x
below-mapped top p x room small within less twice either is = elim (cases_lt room (p - x)) [
  | inl far ↦
      let reached : min (p - x) ((room + 1) % 2 ^ 32) ≡ room + 1 = omega (arith, far, twice, small) in
      let past : from_distance room (p - x) 1 ≡ room + (p - x) =
      elim either [
        | inl e ↦ absurd (omega (arith, e, far))
        | inr e ↦ omega (arith, reached, e, far, small, within, less)
      ] in
      past ∙ sym (rw is (grind (arith, nat_tests)))
  | inr near ↦
      let reached : min (p - x) ((room + 1) % 2 ^ 32) ≡ p - x = omega (arith, near, twice, small) in
      let twofold : from_distance room (p - x) 1 ≡ 2 * (p - x) - 1 = omega (arith, reached, near, twice, small, less) in
      twofold ∙ sym (rw is (grind (arith, nat_tests)))
]

above-mapped : (top p x room : ℕ) → top < 2 ^ 32 → x ≤ top → p ≤ x → room + room ≤ top → (room ≡ p) ⊎ (room ≡ top - p) → offset_room top p ≡ room
    → from_distance room (x - p) 0 ≡ mapped_offset top p x
above-mapped top p x room small within more twice either is = elim (cases_lt room (x - p)) [
  | inl far ↦
      let reached : min (x - p) ((room + 0) % 2 ^ 32) ≡ room = omega (arith, far, twice, small) in
      let past : from_distance room (x - p) 0 ≡ room + (x - p) =
      elim either [
        | inl e ↦ omega (arith, reached, e, far, small, within, more)
        | inr e ↦ absurd (omega (arith, e, far, within))
      ] in
      past ∙ sym (rw is (grind (arith, nat_tests)))
  | inr near ↦
      let reached : min (x - p) ((room + 0) % 2 ^ 32) ≡ x - p = omega (arith, near, twice, small) in
      let twofold : from_distance room (x - p) 0 ≡ 2 * (x - p) = omega (arith, reached, near, twice, small, more) in
      twofold ∙ sym (rw is (grind (arith, nat_tests)))
]

lane-value : (top p x : ℕ) → top < 2 ^ 32 → p ≤ top → x ≤ top → lane_mapped top p x ≡ mapped_offset top p x
lane-value top p x small p_within x_within =
    let room = room-bounds top p p_within in
    elim (cases_lt x p) [
      | inl less ↦
          let parts = below-parts p x less (omega arith) in
          lane-parts top p x (p - x) 1 parts.0 parts.1 ∙ below-mapped top p x (offset_room top p) small p_within less room.0 room.1 refl
      | inr more ↦
          let parts = above-parts p x more (omega arith) in
          lane-parts top p x (x - p) 0 parts.0 parts.1 ∙ above-mapped top p x (offset_room top p) small x_within more room.0 room.1 refl
    ]

-- ---- all lanes

all-at : (top i : ℕ) (xs : List ℕ) → AllByRecursion (λ x. x ≤ top) xs → i < length xs → get_or xs i 0 ≤ top
all-at top i [] all within = absurd (omega arith)
all-at top zero (x ∷ xs) all within = all.0
all-at top (suc i) (x ∷ xs) all within = all-at top i xs all.1 (omega arith)

prediction-at : (top p i : ℕ) (xs : List ℕ) → p ≤ top → AllByRecursion (λ x. x ≤ top) xs → i < length xs → get_or (p ∷ xs) i 0 ≤ top
prediction-at top p i xs first all within = all-at top i (p ∷ xs) (first, all) (omega arith)

prediction-taken : (p i : ℕ) (xs : List ℕ) → i < 8 → get_or (p ∷ take 7 xs) i 0 ≡ get_or (p ∷ xs) i 0
prediction-taken p zero xs within = refl
prediction-taken p (suc i) xs within = get_or-take 7 xs i 0 (omega arith)

get_or-mapped_offsets : (top p i : ℕ) (xs : List ℕ) → i < length xs
    → get_or (mapped_offsets top p xs) i 0 ≡ mapped_offset top (get_or (p ∷ xs) i 0) (get_or xs i 0)
get_or-mapped_offsets top p i [] within = absurd (omega arith)
get_or-mapped_offsets top p zero (x ∷ xs) within = refl
get_or-mapped_offsets top p (suc i) (x ∷ xs) within = get_or-mapped_offsets top x i xs (omega arith)

pub length-mapped_offsets : (top p : ℕ) (xs : List ℕ) → length (mapped_offsets top p xs) ≡ length xs
length-mapped_offsets top p [] = refl
length-mapped_offsets top p (x ∷ xs) = omega (arith, length-mapped_offsets top x xs)

-- the steps that each lane computes, in order
pub eight_mapped : (top p : ℕ) (xs before above least distances far below rooms more reached twice result : List ℕ) → top < 2 ^ 32 → p ≤ top
    → AllByRecursion (λ x. x ≤ top) xs → length xs ≡ 8 → length result ≡ 8
    → before ≡ p ∷ take 7 xs
    → ((i : ℕ) → i < 8 → get_or above i 0 ≡ max (get_or xs i 0) (get_or before i 0))
    → ((i : ℕ) → i < 8 → get_or least i 0 ≡ min (get_or xs i 0) (get_or before i 0))
    → ((i : ℕ) → i < 8 → get_or distances i 0 ≡ (get_or above i 0 + (2 ^ 32 - get_or least i 0)) % 2 ^ 32)
    → ((i : ℕ) → i < 8 → get_or far i 0 ≡ (get_or above i 0 + (2 ^ 32 - get_or xs i 0)) % 2 ^ 32)
    → ((i : ℕ) → i < 8 → get_or below i 0 ≡ min (get_or far i 0) (get_or (replicate 8 1) i 0))
    → ((i : ℕ) → i < 8 → get_or before i 0 ≤ top → get_or rooms i 0 ≡ offset_room top (get_or before i 0))
    → ((i : ℕ) → i < 8 → get_or more i 0 ≡ (get_or rooms i 0 + get_or below i 0) % 2 ^ 32)
    → ((i : ℕ) → i < 8 → get_or reached i 0 ≡ min (get_or distances i 0) (get_or more i 0))
    → ((i : ℕ) → i < 8 → get_or twice i 0 ≡ (get_or distances i 0 + get_or reached i 0) % 2 ^ 32)
    → ((i : ℕ) → i < 8 → get_or result i 0 ≡ (get_or twice i 0 + (2 ^ 32 - get_or below i 0)) % 2 ^ 32)
    → result ≡ mapped_offsets top p xs
eight_mapped top p xs before above least distances far below rooms more reached twice result small first all long long_result
    is_before is_above is_least is_distances is_far is_below is_rooms is_more is_reached is_twice is_result =
    ext_get_or 0 result (mapped_offsets top p xs) (long_result ∙ sym (length-mapped_offsets top p xs ∙ long)) (λ i within. lane i (omega (arith, long_result)))
  where
    lane : (i : ℕ) → i < 8 → get_or result i 0 ≡ get_or (mapped_offsets top p xs) i 0
    lane i within =
        let x = get_or xs i 0 in
        let q = get_or (p ∷ xs) i 0 in
        let q_within : q ≤ top = prediction-at top p i xs first all (omega (arith, long)) in
        let at : get_or before i 0 ≡ q = ap (λ (ls : List ℕ). get_or ls i 0) is_before ∙ prediction-taken p i xs within in
        let greater : get_or above i 0 ≡ max x q = is_above i within ∙ ap (max x) at in
        let lesser : get_or least i 0 ≡ min x q = is_least i within ∙ ap (min x) at in
        let distance : get_or distances i 0 ≡ lane_distance q x = is_distances i within ∙ ap₂ (λ a b. (a + (2 ^ 32 - b)) % 2 ^ 32) greater lesser in
        let one : get_or below i 0 ≡ lane_below q x =
        is_below i within ∙ ap₂ min (is_far i within ∙ ap (λ a. (a + (2 ^ 32 - x)) % 2 ^ 32) greater) (get_or-replicate 8 i 1 0 within) in
        let room : get_or rooms i 0 ≡ offset_room top q = is_rooms i within (subst (λ n. n ≤ top) (sym at) q_within) ∙ ap (offset_room top) at in
        let reach : get_or reached i 0 ≡ lane_reached top q x =
        is_reached i within ∙ ap₂ min distance (is_more i within ∙ ap₂ (λ a b. (a + b) % 2 ^ 32) room one) in
        is_result i within
        ∙ ap₂ (λ a b. (a + (2 ^ 32 - b)) % 2 ^ 32) (is_twice i within ∙ ap₂ (λ a b. (a + b) % 2 ^ 32) distance reach) one
        ∙ lane-value top q x small q_within (all-at top i xs all (omega (arith, long)))
        ∙ sym (get_or-mapped_offsets top p i xs (omega (arith, long)))

-- ---- a list mapped by eights

mapped_offsets-append : (top p : ℕ) (xs ys : List ℕ)
    → mapped_offsets top p (xs ++ ys) ≡ mapped_offsets top p xs ++ mapped_offsets top (get_or (p ∷ xs) (length xs) 0) ys
mapped_offsets-append top p [] ys = refl
mapped_offsets-append top p (x ∷ xs) ys = ap (λ vs. mapped_offset top p x ∷ vs) (mapped_offsets-append top x xs ys)

all-take : (top n : ℕ) (xs : List ℕ) → AllByRecursion (λ x. x ≤ top) xs → AllByRecursion (λ x. x ≤ top) (take n xs)
all-take top zero xs all = tt
all-take top (suc n) [] all = tt
all-take top (suc n) (x ∷ xs) all = (all.0, all-take top n xs all.1)

all-drop : (top n : ℕ) (xs : List ℕ) → AllByRecursion (λ x. x ≤ top) xs → AllByRecursion (λ x. x ≤ top) (drop n xs)
all-drop top zero xs all = all
all-drop top (suc n) [] all = tt
all-drop top (suc n) (x ∷ xs) all = all-drop top n xs all.1

-- eight more offsets are mapped
pub mapped-eight_more : (top previous p at taken next q : ℕ) (old mid part : List ℕ) → IsMappedSoFar top previous p at old mid → taken ≡ 8 → next ≡ at + 8
    → next ≤ length old → part ≡ mapped_offsets top p (take taken (drop at mid)) → q ≡ get_or (take taken (drop at mid)) 7 0
    → IsMappedSoFar top previous q next old (put_mid at taken mid part)
mapped-eight_more top previous p at taken next q old mid part so_far is_eight after within mapped last = record {
  behind = drop-put_mid at taken mid part next (omega (arith, is_eight, after)) inside part_len ∙ rest_of mid ∙ ap (drop 8) so_far.behind ∙ sym (rest_of old);
  whole =
      ap (λ xs. xs ++ mapped_offsets top q (drop next old)) (take-put_mid at taken mid part next (omega (arith, part_len, is_eight, after)) inside)
      ∙ append_assoc (take at mid) part (mapped_offsets top q (drop next old)) ∙ ap (λ xs. take at mid ++ xs) joined ∙ so_far.whole;
  within = subst (λ n. n ≤ top) (sym (last ∙ ap (λ xs. get_or xs 7 0) group))
      (all-at top 7 eight (all-take top 8 (drop at old) so_far.rest) (omega (arith, len)));
  rest = subst (AllByRecursion (λ x. x ≤ top)) (sym (rest_of old)) (all-drop top 8 (drop at old) so_far.rest);
  len = same_len_mid at taken mid part (part_len ∙ sym (ap length group ∙ len ∙ sym is_eight)) ∙ so_far.len;
}
  where
    eight : List ℕ
    eight = take 8 (drop at old)

    group : take taken (drop at mid) ≡ eight
    group = ap (λ k. take k (drop at mid)) is_eight ∙ ap (take 8) so_far.behind

    len : length eight ≡ 8
    len = length-take-le 8 (drop at old) (omega (arith, length-drop at old, after, within))

    part_len : length part ≡ taken
    part_len = ap length (mapped ∙ ap (mapped_offsets top p) group) ∙ length-mapped_offsets top p eight ∙ len ∙ sym is_eight

    inside : at ≤ length mid
    inside = omega (arith, so_far.len, after, within)

    rest_of : (xs : List ℕ) → drop next xs ≡ drop 8 (drop at xs)
    rest_of xs = ap (λ n. drop n xs) after ∙ sym (drop-drop 8 at xs)

    predicted : q ≡ get_or (p ∷ eight) (length eight) 0
    predicted = last ∙ ap (λ xs. get_or xs 7 0) group ∙ ap (λ n. get_or (p ∷ eight) n 0) (sym len)

    joined : part ++ mapped_offsets top q (drop next old) ≡ mapped_offsets top p (drop at old)
    joined =
        ap₂ (λ xs r. xs ++ mapped_offsets top r (drop next old)) (mapped ∙ ap (mapped_offsets top p) group) predicted
        ∙ sym (mapped_offsets-append top p eight (drop next old)) ∙ ap (λ xs. mapped_offsets top p (eight ++ xs)) (rest_of old)
        ∙ ap (mapped_offsets top p) (take-append-drop 8 (drop at old))

pub ruleset shifted = (shifted_list)

pub ruleset lesser_lanes = (lesser_lane)

pub ruleset greater_lanes = (greater_lane)

pub ruleset sum_lanes = (sum_lane)

pub ruleset difference_lanes = (difference_lane)
