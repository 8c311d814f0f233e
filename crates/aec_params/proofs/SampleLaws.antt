-- The blocks and the number of samples determine the samples.
use Rattle.std.proofs.Common.{◌≡◌, ℕ, zero, suc, ◌+◌, ◌-◌, ◌<◌, ◌≤◌, Bool, true, false, cond, ℤ, pos, List, [], ◌∷◌, ◌++◌, length, take, drop, map, replicate, min, Option, Some, None, refl, ap, sym, ◌∙◌, arith, ⊎_elim, ◌⊎◌, inl, inr, length-append}
use Rattle.std.specs.List.{flat_map, AllByRecursion, last_or}
use Rattle.std.specs.Option.{unwrap_or}
use Rattle.std.proofs.lemmas.List.{length-replicate, length-take, length-drop, take-append-drop, length-map}
use Rattle.std.specs.Int.{div_ceil}
use Rattle.std.proofs.Math.Nat.{mul-pos}
use Rattle.aec_params.specs.declared.settings.Settings.{Settings}
use Rattle.aec_params.specs.Params.{IsAllowed, IsHeld, sample_pattern, interval_len}
use Rattle.aec_params.specs.Cutting.{pieces_of, up_to_multiple}
use Rattle.aec_params.specs.Mapping.{mapped_after, mapped_values}
use Rattle.aec_params.specs.Blocks.{Block, filled_samples, reference_of, with_reference, blocks_of, all_blocks_of}
use Rattle.aec_params.proofs.ListLaws.{same_head, same_tail, append_apart, all-append, all-replicate, all-front, all-back}
use Rattle.aec_params.proofs.SettingLaws.{block_size-positive, interval-positive}
use Rattle.aec_params.proofs.CuttingLaws.{pieces_of-nil, pieces_of-step, join-pieces_of, length-pieces_of}
use Rattle.aec_params.proofs.PatternLaws.{pattern-one_to_one}
use Rattle.aec_params.proofs.ValueLaws.{mapped_value-one_to_one}

-- ---- values and their samples

abbrev pub AreHeld : Settings → List ℤ → Type 0
AreHeld s xs = AllByRecursion (IsHeld s) xs

same_choice_of : (b : Bool) (u v w z : ℕ) → cond b (Some u) None ≡ cond b (Some w) None → cond b 0 v ≡ cond b 0 z → (u ≡ w) ⊎ (v ≡ z)
same_choice_of true u v w z e f = inl (cc)
same_choice_of false u v w z e f = inr f

pub mapped_after-one_to_one : (s : Settings) (p : ℤ) (xs ys : List ℤ) → IsAllowed s → IsHeld s p → AreHeld s xs → AreHeld s ys
    → mapped_after s p xs ≡ mapped_after s p ys → xs ≡ ys
mapped_after-one_to_one s p [] [] a h k l e = refl
mapped_after-one_to_one s p [] (y ∷ ys) a h k l e = absurd (cc)
mapped_after-one_to_one s p (x ∷ xs) [] a h k l e = absurd (cc)
mapped_after-one_to_one s p (x ∷ xs) (y ∷ ys) a h k l e =
    let q : x ≡ y = mapped_value-one_to_one s p x y a h k.0 l.0 (same_head e) in
    let t : mapped_after s x xs ≡ mapped_after s x ys = same_tail e ∙ ap (λ (z : ℤ). mapped_after s z ys) (sym q) in
    let r = mapped_after-one_to_one s x xs ys a k.0 k.1 l.1 t in
    cc

-- the reference and the values determine the samples
pub mapped_values-one_to_one : (s : Settings) (xs ys : List ℤ) → IsAllowed s → AreHeld s xs → AreHeld s ys
    → reference_of s xs ≡ reference_of s ys → mapped_values s xs ≡ mapped_values s ys → xs ≡ ys
mapped_values-one_to_one s [] [] a h k r e = refl
mapped_values-one_to_one s [] (y ∷ ys) a h k r e = absurd (cc)
mapped_values-one_to_one s (x ∷ xs) [] a h k r e = absurd (cc)
mapped_values-one_to_one s (x ∷ xs) (y ∷ ys) a h k r e =
    let p : sample_pattern s x ≡ sample_pattern s y =
    ⊎_elim (λ (q : sample_pattern s x ≡ sample_pattern s y). q) (λ (q : sample_pattern s x ≡ sample_pattern s y). q)
    (same_choice_of s.preprocess (sample_pattern s x) (sample_pattern s x) (sample_pattern s y) (sample_pattern s y) r (same_head e)) in
    let q : x ≡ y = pattern-one_to_one s x y a h.0 k.0 p in
    let t : mapped_after s x xs ≡ mapped_after s x ys = same_tail e ∙ ap (λ (z : ℤ). mapped_after s z ys) (sym q) in
    let f = mapped_after-one_to_one s x xs ys a h.0 h.1 k.1 t in
    cc

-- ---- filled samples

last_is_held : (s : Settings) (x : ℤ) (xs : List ℤ) → IsHeld s x → AreHeld s xs → IsHeld s (unwrap_or (last_or (Some x) xs) (pos 0))
last_is_held s x [] h k = h
last_is_held s x (y ∷ ys) h k = last_is_held s y ys k.0 k.1

pub held-filled_samples : (s : Settings) (x : ℤ) (xs : List ℤ) → AreHeld s (x ∷ xs) → AreHeld s (filled_samples s (x ∷ xs))
held-filled_samples s x xs h =
    let n = up_to_multiple s.block_size (length (x ∷ xs)) in
    let last = unwrap_or (last_or (Some x) xs) (pos 0) in
    all-append (IsHeld s) (x ∷ xs) (replicate n last) h (all-replicate (IsHeld s) n last (last_is_held s x xs h.0 h.1))

filled_apart : (s : Settings) (xs ys : List ℤ) → length xs ≡ length ys → filled_samples s xs ≡ filled_samples s ys → xs ≡ ys
filled_apart s xs ys l e =
    let n = up_to_multiple s.block_size (length xs) in
    let m = up_to_multiple s.block_size (length ys) in
    (append_apart xs ys (replicate n (unwrap_or (last_or None xs) (pos 0))) (replicate m (unwrap_or (last_or None ys) (pos 0))) l e).0

-- ---- blocks

-- the values of all blocks, in order
abbrev pub values_in : List Block → List ℕ
values_in blocks = flat_map (λ (b : Block). b.values) blocks

values_in-plain : (groups : List (List ℕ))
    → values_in (map (λ (values : List ℕ). record { reference = None; values = values }) groups) ≡ flat_map (λ (g : List ℕ). g) groups
values_in-plain [] = refl
values_in-plain (g ∷ groups) = ap (λ (t : List ℕ). g ++ t) (values_in-plain groups)

pub values_in-with_reference : (r : Option ℕ) (groups : List (List ℕ)) → values_in (with_reference r groups) ≡ flat_map (λ (g : List ℕ). g) groups
values_in-with_reference r [] = refl
values_in-with_reference r (g ∷ groups) = ap (λ (t : List ℕ). g ++ t) (values_in-plain groups)

pub values_in-blocks_of : (s : Settings) (v : List ℤ) → 0 < s.block_size → values_in (blocks_of s v) ≡ mapped_values s (filled_samples s v)
values_in-blocks_of s v h =
    values_in-with_reference (reference_of s v) (pieces_of s.block_size (mapped_values s (filled_samples s v)))
    ∙ join-pieces_of s.block_size (mapped_values s (filled_samples s v)) h

-- the reference of the first block
first_reference : List Block → Option ℕ
first_reference [] = None
first_reference (b ∷ blocks) = b.reference

first_reference-of : (r : Option ℕ) (groups : List (List ℕ)) → 0 < length groups → first_reference (with_reference r groups) ≡ r
unfolding first_reference
first_reference-of r [] h = absurd (omega arith)
first_reference-of r (g ∷ groups) h = refl

first_reference-blocks_of : (s : Settings) (x : ℤ) (xs : List ℤ) → 0 < s.block_size → first_reference (blocks_of s (x ∷ xs)) ≡ reference_of s (x ∷ xs)
first_reference-blocks_of s x xs h =
    let values = mapped_values s (filled_samples s (x ∷ xs)) in
    let e = pieces_of-step s.block_size values h (omega arith) in
    first_reference-of (reference_of s (x ∷ xs)) (pieces_of s.block_size values) (omega (arith, ap length e))

-- the blocks of an interval and the number of its samples determine the samples
pub blocks_of-one_to_one : (s : Settings) (xs ys : List ℤ) → IsAllowed s → AreHeld s xs → AreHeld s ys → length xs ≡ length ys
    → blocks_of s xs ≡ blocks_of s ys → xs ≡ ys
blocks_of-one_to_one s [] [] a h k l e = refl
blocks_of-one_to_one s [] (y ∷ ys) a h k l e = absurd (omega arith)
blocks_of-one_to_one s (x ∷ xs) [] a h k l e = absurd (omega arith)
blocks_of-one_to_one s (x ∷ xs) (y ∷ ys) a h k l e =
    let j = block_size-positive s a in
    let r : reference_of s (x ∷ xs) ≡ reference_of s (y ∷ ys) =
    sym (first_reference-blocks_of s x xs j) ∙ (ap first_reference e ∙ first_reference-blocks_of s y ys j) in
    let m : mapped_values s (filled_samples s (x ∷ xs)) ≡ mapped_values s (filled_samples s (y ∷ ys)) =
    sym (values_in-blocks_of s (x ∷ xs) j) ∙ (ap values_in e ∙ values_in-blocks_of s (y ∷ ys) j) in
    filled_apart s (x ∷ xs) (y ∷ ys) l
    (mapped_values-one_to_one s (filled_samples s (x ∷ xs)) (filled_samples s (y ∷ ys)) a
    (held-filled_samples s x xs h) (held-filled_samples s y ys k) r m)

-- ---- all samples

pub interval_len-positive : (s : Settings) → IsAllowed s → 0 < interval_len s
interval_len-positive s a = mul-pos (block_size-positive s a) (interval-positive s a)

pub all_blocks_of-nil : (s : Settings) → IsAllowed s → all_blocks_of s [] ≡ []
all_blocks_of-nil s a = ap (flat_map (blocks_of s)) (pieces_of-nil {X = ℤ} (interval_len s) (interval_len-positive s a))

-- the blocks are those of the first interval, then those of the other samples
pub all_blocks_of-step : (s : Settings) (xs : List ℤ) → IsAllowed s → 0 < length xs
    → all_blocks_of s xs ≡ blocks_of s (take (interval_len s) xs) ++ all_blocks_of s (drop (interval_len s) xs)
all_blocks_of-step s xs a l = ap (flat_map (blocks_of s)) (pieces_of-step (interval_len s) xs (interval_len-positive s a) l)

pub length-with_reference : (r : Option ℕ) (groups : List (List ℕ)) → length (with_reference r groups) ≡ length groups
length-with_reference r [] = refl
length-with_reference r (g ∷ groups) = ap suc (length-map groups (λ (values : List ℕ). record { reference = None; values = values }))

length-mapped_after : (s : Settings) (p : ℤ) (xs : List ℤ) → length (mapped_after s p xs) ≡ length xs
length-mapped_after s p [] = refl
length-mapped_after s p (x ∷ xs) = ap suc (length-mapped_after s x xs)

pub length-mapped_values : (s : Settings) (xs : List ℤ) → length (mapped_values s xs) ≡ length xs
length-mapped_values s [] = refl
length-mapped_values s (x ∷ xs) = ap suc (length-mapped_after s x xs)

-- intervals of equal length have equal numbers of blocks
same_block_count : (s : Settings) (xs ys : List ℤ) → 0 < s.block_size → length xs ≡ length ys → length (blocks_of s xs) ≡ length (blocks_of s ys)
same_block_count s xs ys h l = count xs ∙ (ap (λ (m : ℕ). div_ceil (m + up_to_multiple s.block_size m) s.block_size) l ∙ sym (count ys))
  where
    filled : (v : List ℤ) → length (filled_samples s v) ≡ length v + up_to_multiple s.block_size (length v)
    filled v = simp (length-append, length-replicate)

    count : (v : List ℤ) → length (blocks_of s v) ≡ div_ceil (length v + up_to_multiple s.block_size (length v)) s.block_size
    count v =
        length-with_reference (reference_of s v) (pieces_of s.block_size (mapped_values s (filled_samples s v)))
        ∙ (length-pieces_of s.block_size (mapped_values s (filled_samples s v)) h
        ∙ ap (λ (m : ℕ). div_ceil m s.block_size) (length-mapped_values s (filled_samples s v) ∙ filled v))

pub held-take : (s : Settings) (n : ℕ) (xs : List ℤ) → AreHeld s xs → AreHeld s (take n xs)
held-take s n xs h = all-front (IsHeld s) (take n xs) (drop n xs) (rw (take-append-drop n xs) h)

pub held-drop : (s : Settings) (n : ℕ) (xs : List ℤ) → AreHeld s xs → AreHeld s (drop n xs)
held-drop s n xs h = all-back (IsHeld s) (take n xs) (drop n xs) (rw (take-append-drop n xs) h)

-- the blocks and the number of samples determine the samples; m bounds the number
apart : (m : ℕ) (s : Settings) (xs ys : List ℤ) → length xs ≤ m → IsAllowed s → AreHeld s xs → AreHeld s ys → length xs ≡ length ys
    → all_blocks_of s xs ≡ all_blocks_of s ys → xs ≡ ys
apart m s [] [] b a h k l e = refl
apart m s [] (y ∷ ys) b a h k l e = absurd (omega arith)
apart m s (x ∷ xs) [] b a h k l e = absurd (omega arith)
apart zero s (x ∷ xs) (y ∷ ys) b a h k l e = absurd (omega arith)
apart (suc m) s (x ∷ xs) (y ∷ ys) b a h k l e =
    let n = interval_len s in
    let p = interval_len-positive s a in
    let c = same_block_count s (take n (x ∷ xs)) (take n (y ∷ ys)) (block_size-positive s a) (same_take n l) in
    let f = append_apart (blocks_of s (take n (x ∷ xs))) (blocks_of s (take n (y ∷ ys)))
    (all_blocks_of s (drop n (x ∷ xs))) (all_blocks_of s (drop n (y ∷ ys))) c
    (sym (all_blocks_of-step s (x ∷ xs) a (omega arith)) ∙ (e ∙ all_blocks_of-step s (y ∷ ys) a (omega arith))) in
    let front = blocks_of-one_to_one s (take n (x ∷ xs)) (take n (y ∷ ys)) a (held-take s n (x ∷ xs) h) (held-take s n (y ∷ ys) k) (same_take n l) f.0 in
    let back = apart m s (drop n (x ∷ xs)) (drop n (y ∷ ys)) (shorter n p b) a (held-drop s n (x ∷ xs) h) (held-drop s n (y ∷ ys) k) (same_drop n l) f.1 in
    joined n front back
  where
    same_take : (n : ℕ) → length (x ∷ xs) ≡ length (y ∷ ys) → length (take n (x ∷ xs)) ≡ length (take n (y ∷ ys))
    same_take n l = length-take n (x ∷ xs) ∙ (ap (min n) l ∙ sym (length-take n (y ∷ ys)))

    same_drop : (n : ℕ) → length (x ∷ xs) ≡ length (y ∷ ys) → length (drop n (x ∷ xs)) ≡ length (drop n (y ∷ ys))
    same_drop n l = length-drop n (x ∷ xs) ∙ (ap (λ (t : ℕ). t - n) l ∙ sym (length-drop n (y ∷ ys)))

    shorter : (n : ℕ) → 0 < n → length (x ∷ xs) ≤ suc m → length (drop n (x ∷ xs)) ≤ m
    shorter n p b = simp length-drop (omega arith)

    joined : (n : ℕ) → take n (x ∷ xs) ≡ take n (y ∷ ys) → drop n (x ∷ xs) ≡ drop n (y ∷ ys) → x ∷ xs ≡ y ∷ ys
    joined n f g = sym (take-append-drop n (x ∷ xs)) ∙ (ap (λ (t : List ℤ). t ++ drop n (x ∷ xs)) f
        ∙ (ap (λ (t : List ℤ). take n (y ∷ ys) ++ t) g ∙ take-append-drop n (y ∷ ys)))

pub all_blocks_of-one_to_one : (s : Settings) (xs ys : List ℤ) → IsAllowed s → AreHeld s xs → AreHeld s ys → length xs ≡ length ys
    → all_blocks_of s xs ≡ all_blocks_of s ys → xs ≡ ys
all_blocks_of-one_to_one s xs ys a h k l e = apart (length xs) s xs ys (omega arith) a h k l e
