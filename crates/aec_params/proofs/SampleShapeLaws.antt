-- The blocks of held samples have the format's shape.
use Rattle.std.proofs.Common.{◌≡◌, ℕ, zero, suc, ◌+◌, ◌-◌, ◌*◌, ◌/◌, ◌%◌, ◌^◌, ◌<◌, ◌≤◌, Bool, true, false, cond, ◌&&◌, ℤ, pos, List, [], ◌∷◌, ◌++◌, length, take, drop, map, replicate, Option, Some, None, refl, ap, sym, ◌∙◌, subst, arith, ⊎_elim, length-append}
use Rattle.std.specs.List.{flat_map, AllByRecursion, last_or}
use Rattle.std.proofs.lemmas.List.{take-append-drop, length-take-le, drop_all, length-take, length-drop, length-replicate}
use Rattle.std.proofs.lemmas.Nat.{pow_pos}
use Rattle.std.proofs.lemmas.Bool.{cases_lt}
use Rattle.aec_params.specs.declared.settings.Settings.{Settings}
use Rattle.aec_params.specs.Params.{IsAllowed, IsHeld, sample_pattern, interval_len}
use Rattle.aec_params.specs.Cutting.{pieces_of, up_to_multiple}
use Rattle.aec_params.specs.Mapping.{mapped_after, mapped_values}
use Rattle.aec_params.specs.Blocks.{filled_samples, reference_of, with_reference, blocks_of, all_blocks_of}
use Rattle.aec_params.specs.CodedDataSets.{HasReference}
use Rattle.aec_params.specs.Places.{is_reference_block}
use Rattle.aec_params.specs.BlockShapes.{IsBlockAt, AreBlocksFrom, HasReferencePlace}
use Rattle.aec_params.proofs.ListLaws.{all-front, all-back}
use Rattle.aec_params.proofs.SettingLaws.{block_size-positive, interval-positive}
use Rattle.aec_params.proofs.CuttingLaws.{by_pieces, pieces_of-step, join-pieces_of, whole-pieces_of}
use Rattle.aec_params.proofs.PatternLaws.{pattern-fits}
use Rattle.aec_params.proofs.ValueLaws.{mapped_value-fits}
use Rattle.aec_params.proofs.BlockShapeLaws.{AreBlocksFrom-append, AreBlocksFrom-later}
use Rattle.aec_params.proofs.StreamLaws.{not_first}
use Rattle.std.specs.Option.{unwrap_or}
use Rattle.std.proofs.Math.Nat.{mod-eq_of_lt, mod-lt, div-add-mod', add-mod-mod, mul-mod_left, mul_comm, lt_of_mul-lt-mul_right, le_of_mul-le-mul_right}
use Rattle.aec_params.proofs.SampleLaws.{AreHeld, held-take, held-drop, length-with_reference, held-filled_samples, length-mapped_values, all_blocks_of-step, all_blocks_of-nil, interval_len-positive}

-- ---- values below 2^n

abbrev IsBelow : Settings → ℕ → Type 0
IsBelow s v = v < 2 ^ s.bits

mapped_after-below : (s : Settings) (p : ℤ) (xs : List ℤ) → IsAllowed s → IsHeld s p → AreHeld s xs → AllByRecursion (IsBelow s) (mapped_after s p xs)
mapped_after-below s p [] a h k = tt
mapped_after-below s p (x ∷ xs) a h k = (mapped_value-fits s p x a h k.0, mapped_after-below s x xs a k.0 k.1)

first_value-below : (s : Settings) (b : Bool) (x : ℤ) → IsAllowed s → IsHeld s x → cond b 0 (sample_pattern s x) < 2 ^ s.bits
first_value-below s true x a h = pow_pos s.bits
first_value-below s false x a h = pattern-fits s x a h

mapped_values-below : (s : Settings) (xs : List ℤ) → IsAllowed s → AreHeld s xs → AllByRecursion (IsBelow s) (mapped_values s xs)
mapped_values-below s [] a h = tt
mapped_values-below s (x ∷ xs) a h = (first_value-below s s.preprocess x a h.0, mapped_after-below s x xs a h.0 h.1)

-- what holds of each member of a list holds of each member of its pieces
all-pieces_of : {X : Type 0} (P : X → Type 0) (n : ℕ) (xs : List X) → 0 < n → AllByRecursion P xs → AllByRecursion (AllByRecursion P) (pieces_of n xs)
all-pieces_of {X} P n xs h all =
    by_pieces n (λ (xs : List X) (ps : List (List X)). AllByRecursion P xs → AllByRecursion (AllByRecursion P) ps) h (λ _. tt)
    (λ xs l rest all. (front xs all, rest (back xs all))) xs all
  where
    front : (xs : List X) → AllByRecursion P xs → AllByRecursion P (take n xs)
    front xs all = all-front P (take n xs) (drop n xs) (rw (take-append-drop n xs) all)

    back : (xs : List X) → AllByRecursion P xs → AllByRecursion P (drop n xs)
    back xs all = all-back P (take n xs) (drop n xs) (rw (take-append-drop n xs) all)

-- a number plus what it lacks to the next multiple of j is a multiple of j
multiple : (m j : ℕ) → 0 < j → (m + up_to_multiple j m) % j ≡ 0
multiple m j h =
    let r = mod-lt m h in
    let d = div-add-mod' m j in
    let e : m + (j - m % j) ≡ (m / j + 1) * j = omega arith in
    add-mod-mod m (j - m % j) j ∙ (ap (λ (t : ℕ). t % j) e ∙ mul-mod_left (m / j + 1) j)

filled_samples-whole : (s : Settings) (xs : List ℤ) → IsAllowed s → length (filled_samples s xs) % s.block_size ≡ 0
filled_samples-whole s xs a =
    let last = unwrap_or (last_or None xs) (pos 0) in
    ap (λ (t : ℕ). t % s.block_size)
    (length-append xs (replicate (up_to_multiple s.block_size (length xs)) last)
    ∙ ap (λ (t : ℕ). length xs + t) (length-replicate (up_to_multiple s.block_size (length xs)) last))
    ∙ multiple (length xs) s.block_size (block_size-positive s a)

-- ---- blocks

-- a group of values fits as a block at any place but the first
later_group : (s : Settings) (i : ℕ) (g : List ℕ) → 0 < i → length g ≡ s.block_size → AllByRecursion (IsBelow s) g
    → IsBlockAt s i (record { reference = None; values = g })
later_group s i g l c b = record { reference = rw (not_first s i l) tt; count = c; below = b; place = refl }

-- groups of values fit as blocks after the first block
later_groups : (s : Settings) (i : ℕ) (groups : List (List ℕ)) → 0 < i → i + length groups ≤ s.interval
    → AllByRecursion (λ (g : List ℕ). length g ≡ s.block_size) groups → AllByRecursion (AllByRecursion (IsBelow s)) groups
    → AreBlocksFrom s i (map (λ (values : List ℕ). record { reference = None; values = values }) groups)
later_groups s i [] l h w b = tt
later_groups s i (g ∷ groups) l h w b =
    let e : i % s.interval ≡ i = mod-eq_of_lt (omega arith) in (
      subst (λ (t : ℕ). IsBlockAt s t (record { reference = None; values = g })) (sym e) (later_group s i g l w.0 b.0),
      later_groups s (i + 1) groups (omega arith) (omega arith) w.1 b.1,
    )

-- the first group, if there is one, has 0 in the reference place of r
FirstPlace : Option ℕ → List (List ℕ) → Type 0
FirstPlace r [] = Unit {0}
FirstPlace r (g ∷ groups) = HasReferencePlace r g

groups_shape : (s : Settings) (r : Option ℕ) (groups : List (List ℕ)) → IsAllowed s → HasReference s (is_reference_block s 0) r → FirstPlace r groups
    → length groups ≤ s.interval → AllByRecursion (λ (g : List ℕ). length g ≡ s.block_size) groups → AllByRecursion (AllByRecursion (IsBelow s)) groups
    → AreBlocksFrom s 0 (with_reference r groups)
unfolding FirstPlace
groups_shape s r [] a h f l w b = tt
groups_shape s r (g ∷ groups) a h f l w b =
    let e : 0 % s.interval ≡ 0 = mod-eq_of_lt (interval-positive s a) in (
      subst (λ (t : ℕ). IsBlockAt s t (record { reference = r; values = g })) (sym e) (record { reference = h; count = w.0; below = b.0; place = f }),
      later_groups s 1 groups (omega arith) (omega arith) w.1 b.1,
    )

reference-shape : (s : Settings) (b : Bool) (u : ℕ) → u < 2 ^ s.bits → HasReference s (b && true) (cond b (Some u) None)
reference-shape s true u h = h
reference-shape s false u h = tt

first_taken : (b : Bool) (j u v : ℕ) (rest : List ℕ) → 0 < j → HasReferencePlace (cond b (Some u) None) (take j (cond b 0 v ∷ rest))
first_taken b zero u v rest h = absurd (omega arith)
first_taken true (suc j) u v rest h = refl
first_taken false (suc j) u v rest h = refl

first_place : (s : Settings) (x : ℤ) (xs : List ℤ) → IsAllowed s
    → FirstPlace (reference_of s (x ∷ xs)) (pieces_of s.block_size (mapped_values s (filled_samples s (x ∷ xs))))
unfolding FirstPlace
first_place s x xs a =
    let values = mapped_values s (filled_samples s (x ∷ xs)) in
    let j = block_size-positive s a in
    subst (FirstPlace (reference_of s (x ∷ xs))) (sym (pieces_of-step s.block_size values j (omega arith)))
    (first_taken s.preprocess s.block_size (sample_pattern s x) (sample_pattern s x) _ j)

-- ---- the number of blocks

length-join : (n : ℕ) (groups : List (List ℕ)) → AllByRecursion (λ (g : List ℕ). length g ≡ n) groups
    → length (flat_map (λ (g : List ℕ). g) groups) ≡ length groups * n
length-join n [] w = omega arith
length-join n (g ∷ groups) w = let h = length-join n groups w.1 in let e = w.0 in simp length-append (omega arith)

groups_in : Settings → List ℤ → List (List ℕ)
groups_in s v = pieces_of s.block_size (mapped_values s (filled_samples s v))

whole_groups : (s : Settings) (v : List ℤ) → IsAllowed s → AllByRecursion (λ (g : List ℕ). length g ≡ s.block_size) (groups_in s v)
unfolding groups_in
whole_groups s v a =
    whole-pieces_of s.block_size (mapped_values s (filled_samples s v)) (block_size-positive s a)
    (ap (λ (t : ℕ). t % s.block_size) (length-mapped_values s (filled_samples s v)) ∙ filled_samples-whole s v a)

-- the groups have room for all samples of the interval, and for less than a block more
group_sizes : (s : Settings) (v : List ℤ) → IsAllowed s
    → (length v ≤ length (groups_in s v) * s.block_size) × (length (groups_in s v) * s.block_size < length v + s.block_size)
unfolding groups_in
group_sizes s v a =
    let values = mapped_values s (filled_samples s v) in
    let j = block_size-positive s a in
    let n = up_to_multiple s.block_size (length v) in
    let last = unwrap_or (last_or None v) (pos 0) in
    let e = length-join s.block_size (pieces_of s.block_size values) (whole_groups s v a) in
    let f = ap length (join-pieces_of s.block_size values j) in
    let g = length-mapped_values s (filled_samples s v) in
    let l = length-append v (replicate n last) in
    let k = length-replicate n last in
    let m = mod-lt (s.block_size - length v % s.block_size) j in
    (omega arith, omega arith)

group_count : (s : Settings) (v : List ℤ) → IsAllowed s → length v ≤ interval_len s → length (groups_in s v) ≤ s.interval
group_count s v a l =
    let g = group_sizes s v a in
    let c = mul_comm s.block_size s.interval in
    let k : length (groups_in s v) * s.block_size < (s.interval + 1) * s.block_size = omega (arith, g.1) in
    let m : length (groups_in s v) < s.interval + 1 = lt_of_mul-lt-mul_right s.block_size k in
    omega arith

whole_count : (s : Settings) (v : List ℤ) → IsAllowed s → length v ≡ interval_len s → length (groups_in s v) ≡ s.interval
whole_count s v a e =
    let g = group_sizes s v a in
    let c = mul_comm s.block_size s.interval in
    let few = group_count s v a (omega arith) in
    let k : s.interval * s.block_size ≤ length (groups_in s v) * s.block_size = omega (arith, g.0) in
    let m : s.interval ≤ length (groups_in s v) = le_of_mul-le-mul_right k (block_size-positive s a) in
    omega arith

-- ---- one interval, and all intervals

pub blocks_of-shape : (s : Settings) (x : ℤ) (xs : List ℤ) → IsAllowed s → AreHeld s (x ∷ xs) → length (x ∷ xs) ≤ interval_len s
    → AreBlocksFrom s 0 (blocks_of s (x ∷ xs))
unfolding groups_in
blocks_of-shape s x xs a h l =
    let values = mapped_values s (filled_samples s (x ∷ xs)) in
    groups_shape s (reference_of s (x ∷ xs)) (pieces_of s.block_size values) a
    (reference-shape s s.preprocess (sample_pattern s x) (pattern-fits s x a h.0)) (first_place s x xs a)
    (group_count s (x ∷ xs) a l) (whole_groups s (x ∷ xs) a)
    (all-pieces_of (IsBelow s) s.block_size values (block_size-positive s a)
    (mapped_values-below s (filled_samples s (x ∷ xs)) a (held-filled_samples s x xs h)))

pub length-blocks_of_whole : (s : Settings) (v : List ℤ) → IsAllowed s → length v ≡ interval_len s → length (blocks_of s v) ≡ s.interval
unfolding groups_in
length-blocks_of_whole s v a e =
    length-with_reference (reference_of s v) (pieces_of s.block_size (mapped_values s (filled_samples s v))) ∙ whole_count s v a e

shape_of : (s : Settings) (v : List ℤ) → IsAllowed s → AreHeld s v → 0 < length v → length v ≤ interval_len s → AreBlocksFrom s 0 (blocks_of s v)
shape_of s [] a h k l = absurd (omega arith)
shape_of s (x ∷ xs) a h k l = blocks_of-shape s x xs a h l

next_shape : (s : Settings) (xs : List ℤ) → IsAllowed s → 0 < length xs → AreHeld s xs → AreBlocksFrom s 0 (all_blocks_of s (drop (interval_len s) xs))
    → AreBlocksFrom s 0 (blocks_of s (take (interval_len s) xs) ++ all_blocks_of s (drop (interval_len s) xs))
next_shape s xs a l h rest =
    let n = interval_len s in
    let p = interval_len-positive s a in
    AreBlocksFrom-append s 0 (blocks_of s (take n xs)) (all_blocks_of s (drop n xs))
    (shape_of s (take n xs) a (held-take s n xs h) (simp length-take (omega arith)) (simp length-take (omega arith)))
    (⊎_elim
    (λ (k : n < length xs).
    let e : length (take n xs) ≡ n = length-take-le n xs (omega arith) in
    let c : 0 + s.interval ≡ 0 + length (blocks_of s (take n xs)) = let f = length-blocks_of_whole s (take n xs) a e in omega arith in
    subst (λ (t : ℕ). AreBlocksFrom s t (all_blocks_of s (drop n xs))) c (AreBlocksFrom-later s 0 (all_blocks_of s (drop n xs)) rest))
    (λ (k : length xs ≤ n).
    subst (AreBlocksFrom s (0 + length (blocks_of s (take n xs)))) (sym (ap (all_blocks_of s) (drop_all n xs k) ∙ all_blocks_of-nil s a)) tt)
    (cases_lt n (length xs)))

all_shape : (m : ℕ) (s : Settings) (xs : List ℤ) → length xs ≤ m → IsAllowed s → AreHeld s xs → AreBlocksFrom s 0 (all_blocks_of s xs)
all_shape m s [] l a h = subst (AreBlocksFrom s 0) (sym (all_blocks_of-nil s a)) tt
all_shape zero s (x ∷ xs) l a h = absurd (omega arith)
all_shape (suc m) s (x ∷ xs) l a h =
    let n = interval_len s in
    let p = interval_len-positive s a in
    let shorter : length (drop n (x ∷ xs)) ≤ m = simp length-drop (omega arith) in
    subst (AreBlocksFrom s 0) (sym (all_blocks_of-step s (x ∷ xs) a (omega arith)))
    (next_shape s (x ∷ xs) a (omega arith) h (all_shape m s (drop n (x ∷ xs)) shorter a (held-drop s n (x ∷ xs) h)))

pub all_blocks_of-shape : (s : Settings) (xs : List ℤ) → IsAllowed s → AreHeld s xs → AreBlocksFrom s 0 (all_blocks_of s xs)
all_blocks_of-shape s xs a h = all_shape (length xs) s xs (omega arith) a h
