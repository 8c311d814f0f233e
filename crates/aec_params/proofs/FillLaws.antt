-- Blocks in the format's shape have samples.
use Rattle.std.proofs.Common.{◌≡◌, ℕ, zero, suc, ◌+◌, ◌-◌, ◌*◌, ◌%◌, ◌^◌, ◌<◌, ◌≤◌, Bool, true, false, eqb, ◌&&◌, ℤ, pos, List, [], ◌∷◌, ◌++◌, length, take, drop, map, replicate, Option, Some, None, refl, ap, sym, ◌∙◌, subst, arith, ⊎_elim, length-append}
use Rattle.std.specs.List.{flat_map, AllByRecursion, last_or}
use Rattle.std.specs.Option.{unwrap_or}
use Rattle.std.proofs.lemmas.Bool.{cases_lt, and_right, ne_eqb}
use Rattle.std.proofs.lemmas.List.{append-nil, length-take, length-drop, take-append-drop}
use Rattle.std.proofs.Math.Nat.{mod-eq_of_lt, mul-mod_left, mod_self, mul_comm, mul-pos, mul-le-mul_right}
use Rattle.aec_params.specs.declared.settings.Settings.{Settings}
use Rattle.aec_params.specs.Params.{IsAllowed, IsHeld, interval_len}
use Rattle.aec_params.specs.Cutting.{pieces_of, up_to_multiple}
use Rattle.aec_params.specs.Mapping.{mapped_after, mapped_values}
use Rattle.aec_params.specs.Blocks.{Block, filled_samples, reference_of, with_reference, blocks_of, all_blocks_of}
use Rattle.aec_params.specs.CodedDataSets.{HasReference}
use Rattle.aec_params.specs.Places.{is_reference_block}
use Rattle.aec_params.specs.Reading.{FillBlocks}
use Rattle.aec_params.specs.BlockShapes.{IsBlockAt, AreBlocksFrom, HasReferencePlace}
use Rattle.aec_params.proofs.ListLaws.{same_head, all-append}
use Rattle.aec_params.proofs.SettingLaws.{block_size-positive, interval-positive}
use Rattle.aec_params.proofs.CuttingLaws.{pieces_of-nil, pieces_of-one, pieces_of-append, pieces_of-join}
use Rattle.aec_params.proofs.PatternLaws.{pattern-reaches}
use Rattle.aec_params.proofs.ValueLaws.{mapped_value-reaches}
use Rattle.aec_params.proofs.BlockShapeLaws.{AreBlocksFrom-front, AreBlocksFrom-back, AreBlocksFrom-interval}
use Rattle.aec_params.proofs.SampleLaws.{AreHeld, interval_len-positive, all_blocks_of-nil, values_in, length-mapped_values}

-- ---- samples of values

-- after a held sample, values below 2^n have samples
samples_after_value : (s : Settings) (p : ℤ) (values : List ℕ) → IsAllowed s → IsHeld s p → AllByRecursion (λ (v : ℕ). v < 2 ^ s.bits) values
    → (xs : List ℤ) × AreHeld s xs × (mapped_after s p xs ≡ values)
samples_after_value s p [] a h b = ([], tt, refl)
samples_after_value s p (v ∷ values) a h b =
    let x = mapped_value-reaches s p v a h b.0 in
    let r = samples_after_value s x.0 values a x.1 b.1 in
    (x.0 ∷ r.0, (x.1, r.1), cc (x.2, r.2))

-- the first sample: with preprocessing that of the reference, else that of the first value
first_sample : (s : Settings) (p : Bool) (r : Option ℕ) (v : ℕ) (values : List ℕ) → IsAllowed s → s.preprocess ≡ p → HasReference s p r → v < 2 ^ s.bits
    → HasReferencePlace r (v ∷ values)
    → (x : ℤ) × IsHeld s x × (reference_of s (x ∷ []) ≡ r) × (mapped_values s (x ∷ []) ≡ v ∷ [])
first_sample s true (Some r) v values a e h b z =
    let x = pattern-reaches s r a h in
    let zero_first : 0 ≡ v = sym (same_head z) in
    rw e (x.0, x.1, ap Some x.2, ap (λ (t : ℕ). t ∷ []) zero_first)
first_sample s true None v values a e h b z = absurd h
first_sample s false (Some r) v values a e h b z = absurd h
first_sample s false None v values a e h b z =
    let x = pattern-reaches s v a b in
    rw e (x.0, x.1, refl, ap (λ (t : ℕ). t ∷ []) x.2)

-- values below 2^n with their reference have samples
samples_of_values : (s : Settings) (r : Option ℕ) (values : List ℕ) → IsAllowed s → HasReference s s.preprocess r → 0 < length values
    → AllByRecursion (λ (v : ℕ). v < 2 ^ s.bits) values → HasReferencePlace r values
    → (xs : List ℤ) × AreHeld s xs × (reference_of s xs ≡ r) × (mapped_values s xs ≡ values)
samples_of_values s r [] a h l b z = absurd (omega arith)
samples_of_values s r (v ∷ values) a h l b z =
    let x = first_sample s s.preprocess r v values a refl h b.0 z in
    let t = samples_after_value s x.0 values a x.1 b.1 in
    (x.0 ∷ t.0, (x.1, t.1), x.2, cc (x.3, t.2))

-- ---- one interval

-- a block after the first of its interval: no reference sample, J values below 2^n
record IsLaterBlock (s : Settings) (b : Block) : Type 0 where
  reference : b.reference ≡ None
  count : length b.values ≡ s.block_size
  below : AllByRecursion (λ (v : ℕ). v < 2 ^ s.bits) b.values

values_below : (s : Settings) (blocks : List Block) → AllByRecursion (IsLaterBlock s) blocks → AllByRecursion (λ (v : ℕ). v < 2 ^ s.bits) (values_in blocks)
values_below s [] all = tt
values_below s (b ∷ blocks) all = all-append (λ (v : ℕ). v < 2 ^ s.bits) b.values (values_in blocks) all.0.below (values_below s blocks all.1)

whole_groups : (s : Settings) (blocks : List Block) → AllByRecursion (IsLaterBlock s) blocks
    → AllByRecursion (λ (g : List ℕ). length g ≡ s.block_size) (map (λ (b : Block). b.values) blocks)
whole_groups s [] all = tt
whole_groups s (b ∷ blocks) all = (all.0.count, whole_groups s blocks all.1)

join_groups : (blocks : List Block) → flat_map (λ (g : List ℕ). g) (map (λ (b : Block). b.values) blocks) ≡ values_in blocks
join_groups [] = refl
join_groups (b ∷ blocks) = ap (λ (t : List ℕ). b.values ++ t) (join_groups blocks)

plain_again : (s : Settings) (blocks : List Block) → AllByRecursion (IsLaterBlock s) blocks
    → map (λ (values : List ℕ). record { reference = None; values = values }) (map (λ (b : Block). b.values) blocks) ≡ blocks
plain_again s [] all = refl
plain_again s (b ∷ blocks) all =
    let later = map (λ (values : List ℕ). record { reference = None; values = values }) (map (λ (b : Block). b.values) blocks) in
    ap (λ (r : Option ℕ). record { reference = r; values = b.values } ∷ later) (sym all.0.reference)
    ∙ ap (λ (t : List Block). b ∷ t) (plain_again s blocks all.1)

length-values_in : (s : Settings) (blocks : List Block) → AllByRecursion (λ (b : Block). length b.values ≡ s.block_size) blocks
    → length (values_in blocks) ≡ length blocks * s.block_size
length-values_in s [] all = omega arith
length-values_in s (b ∷ blocks) all =
    let h = length-values_in s blocks all.1 in let c = all.0 in simp length-append (omega arith)

later_counts : (s : Settings) (blocks : List Block) → AllByRecursion (IsLaterBlock s) blocks
    → AllByRecursion (λ (b : Block). length b.values ≡ s.block_size) blocks
later_counts s [] all = tt
later_counts s (b ∷ blocks) all = (all.0.count, later_counts s blocks all.1)

place_in_front : (r : Option ℕ) (values later : List ℕ) → HasReferencePlace r values → HasReferencePlace r (values ++ later)
place_in_front None values later h = refl
place_in_front (Some r) [] later h = absurd (cc)
place_in_front (Some r) (v ∷ values) later h = ap (λ (t : ℕ). t ∷ (values ++ later)) (same_head h)

and_true : (b : Bool) → (b && true) ≡ b
and_true true = refl
and_true false = refl

-- samples that fill whole blocks get no filler
filled_whole : (s : Settings) (xs : List ℤ) (k : ℕ) → length xs ≡ k * s.block_size → filled_samples s xs ≡ xs
filled_whole s xs k e =
    let z : length xs % s.block_size ≡ 0 = ap (λ (t : ℕ). t % s.block_size) e ∙ mul-mod_left k s.block_size in
    let d : s.block_size - length xs % s.block_size ≡ s.block_size = omega arith in
    let n : up_to_multiple s.block_size (length xs) ≡ 0 = ap (λ (t : ℕ). t % s.block_size) d ∙ mod_self s.block_size in
    ap (λ (t : ℕ). xs ++ replicate t (unwrap_or (last_or None xs) (pos 0))) n ∙ append-nil xs

pieces_of_later : (s : Settings) (bs : List Block) → 0 < s.block_size → AllByRecursion (IsLaterBlock s) bs
    → pieces_of s.block_size (values_in bs) ≡ map (λ (b : Block). b.values) bs
pieces_of_later s bs j all =
    let groups = map (λ (b : Block). b.values) bs in
    ap (pieces_of s.block_size) (sym (join_groups bs) ∙ sym (append-nil (flat_map (λ (g : List ℕ). g) groups)))
    ∙ (pieces_of-join s.block_size groups [] j (whole_groups s bs all)
    ∙ (ap (λ (t : List (List ℕ)). groups ++ t) (pieces_of-nil {X = ℕ} s.block_size j) ∙ append-nil groups))

pieces_of_groups : (s : Settings) (b : Block) (bs : List Block) → 0 < s.block_size → length b.values ≡ s.block_size → AllByRecursion (IsLaterBlock s) bs
    → pieces_of s.block_size (values_in (b ∷ bs)) ≡ map (λ (b : Block). b.values) (b ∷ bs)
pieces_of_groups s b bs j c all =
    pieces_of-append s.block_size b.values (values_in bs) j c ∙ ap (λ (t : List (List ℕ)). b.values ∷ t) (pieces_of_later s bs j all)

samples_of_blocks : (s : Settings) (b : Block) (bs : List Block) → IsAllowed s → IsBlockAt s 0 b → AllByRecursion (IsLaterBlock s) bs
    → (xs : List ℤ) × AreHeld s xs × (length xs ≡ length (b ∷ bs) * s.block_size) × (blocks_of s xs ≡ b ∷ bs)
samples_of_blocks s b bs a h all =
    let values = b.values ++ values_in bs in
    let counts = length-values_in s (b ∷ bs) (h.count, later_counts s bs all) in
    let reference = subst (λ (t : Bool). HasReference s t b.reference) (and_true s.preprocess) h.reference in
    let below = all-append (λ (v : ℕ). v < 2 ^ s.bits) b.values (values_in bs) h.below (values_below s bs all) in
    let r = samples_of_values s b.reference values a reference (some_values s b bs a h) below (place_in_front b.reference b.values (values_in bs) h.place) in
    let l : length r.0 ≡ length (b ∷ bs) * s.block_size = sym (length-mapped_values s r.0) ∙ (ap length r.3 ∙ counts) in
    let f : mapped_values s (filled_samples s r.0) ≡ values = ap (mapped_values s) (filled_whole s r.0 (length (b ∷ bs)) l) ∙ r.3 in (
      r.0,
      r.1,
      l,
      ap (λ (t : Option ℕ). with_reference t (pieces_of s.block_size (mapped_values s (filled_samples s r.0)))) r.2
          ∙ (ap (λ (t : List ℕ). with_reference b.reference (pieces_of s.block_size t)) f
          ∙ (ap (with_reference b.reference) (pieces_of_groups s b bs (block_size-positive s a) h.count all)
          ∙ ap (λ (t : List Block). b ∷ t) (plain_again s bs all))),
    )
  where
    some_values : (s : Settings) (b : Block) (bs : List Block) → IsAllowed s → IsBlockAt s 0 b → 0 < length (b.values ++ values_in bs)
    some_values s b bs a h = let c = h.count in let p = block_size-positive s a in simp length-append (omega arith)

-- ---- blocks at their places

later_block : (s : Settings) (p : ℕ) (b : Block) → 0 < p → IsBlockAt s p b → IsLaterBlock s b
later_block s p b l h = record {
  reference = no_reference s b.reference (subst (λ (t : Bool). HasReference s t b.reference) no h.reference);
  count = h.count;
  below = h.below;
}
  where
    no : is_reference_block s p ≡ false
    no = and_right s.preprocess (eqb p 0) (ne_eqb p 0 (λ e. absurd (omega arith)))

    no_reference : (s : Settings) (r : Option ℕ) → HasReference s false r → r ≡ None
    no_reference s None h = refl
    no_reference s (Some r) h = absurd h

-- blocks that fit after the first block of an interval, within it, are later blocks
later_blocks : (s : Settings) (i : ℕ) (bs : List Block) → 0 < i → i + length bs ≤ s.interval → AreBlocksFrom s i bs → AllByRecursion (IsLaterBlock s) bs
later_blocks s i [] l k h = tt
later_blocks s i (b ∷ bs) l k h =
    let e : i % s.interval ≡ i = mod-eq_of_lt (omega arith) in
    (later_block s i b l (subst (λ (t : ℕ). IsBlockAt s t b) e h.0), later_blocks s (i + 1) bs (omega arith) (omega arith) h.1)

-- ---- all blocks

all_blocks_of-append : (s : Settings) (v rest : List ℤ) → IsAllowed s → length v ≡ interval_len s
    → all_blocks_of s (v ++ rest) ≡ blocks_of s v ++ all_blocks_of s rest
all_blocks_of-append s v rest a l = ap (flat_map (blocks_of s)) (pieces_of-append (interval_len s) v rest (interval_len-positive s a) l)

all_blocks_of-one : (s : Settings) (v : List ℤ) → 0 < length v → length v ≤ interval_len s → all_blocks_of s v ≡ blocks_of s v
all_blocks_of-one s v h l = ap (flat_map (blocks_of s)) (pieces_of-one (interval_len s) v h l) ∙ append-nil (blocks_of s v)

HasSamples : Settings → List Block → Type 0
HasSamples s blocks = (samples : List ℤ) × FillBlocks s samples blocks

first_place : (s : Settings) (b : Block) → IsAllowed s → IsBlockAt s (0 % s.interval) b → IsBlockAt s 0 b
first_place s b a h = subst (λ (t : ℕ). IsBlockAt s t b) (mod-eq_of_lt (interval-positive s a)) h

some_samples : (s : Settings) (k m : ℕ) → IsAllowed s → 0 < k → m ≡ k * s.block_size → 0 < m
some_samples s k m a l e = let p : 0 < k * s.block_size = mul-pos l (block_size-positive s a) in omega arith

few_samples : (s : Settings) (k m : ℕ) → k ≤ s.interval → m ≡ k * s.block_size → m ≤ interval_len s
few_samples s k m l e =
    let p : k * s.block_size ≤ s.interval * s.block_size = mul-le-mul_right s.block_size l in omega (arith, mul_comm s.interval s.block_size)

-- the blocks of the last interval have samples
last_samples : (s : Settings) (b : Block) (bs : List Block) → IsAllowed s → length (b ∷ bs) ≤ s.interval → AreBlocksFrom s 0 (b ∷ bs) → HasSamples s (b ∷ bs)
unfolding HasSamples
last_samples s b bs a l h =
    let r = samples_of_blocks s b bs a (first_place s b a h.0) (later_blocks s 1 bs (omega arith) (omega arith) h.1) in
    let some = some_samples s (length (b ∷ bs)) (length r.0) a (omega arith) r.2 in
    let few = few_samples s (length (b ∷ bs)) (length r.0) l r.2 in
    (r.0, record { held = r.1; whole = r.2; mapped = all_blocks_of-one s r.0 some few ∙ r.3 })

-- the blocks of a whole interval, then blocks that have samples, have samples
more_samples : (s : Settings) (b : Block) (bs later : List Block) → IsAllowed s → length (b ∷ bs) ≡ s.interval
    → AreBlocksFrom s 0 (b ∷ bs) → HasSamples s later → HasSamples s ((b ∷ bs) ++ later)
unfolding HasSamples
more_samples s b bs later a l h t =
    let r = samples_of_blocks s b bs a (first_place s b a h.0) (later_blocks s 1 bs (omega arith) (omega arith) h.1) in
    let e : length r.0 ≡ interval_len s = r.2 ∙ (ap (λ (k : ℕ). k * s.block_size) l ∙ mul_comm s.interval s.block_size) in (
      r.0 ++ t.0,
      record {
        held = all-append (IsHeld s) r.0 t.0 r.1 t.1.held;
        whole = both_whole s (b ∷ bs) later r.0 t.0 r.2 t.1.whole;
        mapped = all_blocks_of-append s r.0 t.0 a e
            ∙ (ap (λ (x : List Block). x ++ all_blocks_of s t.0) r.3 ∙ ap (λ (x : List Block). (b ∷ bs) ++ x) t.1.mapped);
      },
    )
  where
    both_whole : (s : Settings) (bs later : List Block) (xs ys : List ℤ) → length xs ≡ length bs * s.block_size → length ys ≡ length later * s.block_size
        → length (xs ++ ys) ≡ length (bs ++ later) * s.block_size
    both_whole s bs later xs ys e f = simp length-append (omega arith)

no_samples : (s : Settings) → IsAllowed s → HasSamples s []
unfolding HasSamples
no_samples s a = ([], record { held = tt; whole = omega arith; mapped = all_blocks_of-nil s a })

cut_length : (s : Settings) (b : Block) (bs : List Block) → IsAllowed s → s.interval < length (b ∷ bs) → length (b ∷ take (s.interval - 1) bs) ≡ s.interval
cut_length s b bs a k = let r = interval-positive s a in let e = length-take (s.interval - 1) bs in omega arith

fewer : (n m : ℕ) (b : Block) (bs : List Block) → length (b ∷ bs) ≤ suc m → length (drop n bs) ≤ m
fewer n m b bs l = simp length-drop (omega arith)

-- m bounds the number of blocks
have_samples : (m : ℕ) (s : Settings) (blocks : List Block) → length blocks ≤ m → IsAllowed s → AreBlocksFrom s 0 blocks → HasSamples s blocks
have_samples m s [] l a h = no_samples s a
have_samples zero s (b ∷ bs) l a h = absurd (omega arith)
have_samples (suc m) s (b ∷ bs) l a h =
    ⊎_elim
    (λ (k : s.interval < length (b ∷ bs)).
    let r = interval-positive s a in
    let n = s.interval - 1 in
    let e : (b ∷ take n bs) ++ drop n bs ≡ b ∷ bs = ap (λ (t : List Block). b ∷ t) (take-append-drop n bs) in
    let c : length (b ∷ take n bs) ≡ s.interval = cut_length s b bs a k in
    let w : AreBlocksFrom s 0 ((b ∷ take n bs) ++ drop n bs) = subst (AreBlocksFrom s 0) (sym e) h in
    let back = AreBlocksFrom-interval s 0 (drop n bs) (subst (λ (t : ℕ). AreBlocksFrom s t (drop n bs)) (ap (λ (t : ℕ). 0 + t) c)
    (AreBlocksFrom-back s 0 (b ∷ take n bs) (drop n bs) w)) in
    subst (HasSamples s) e
    (more_samples s b (take n bs) (drop n bs) a c (AreBlocksFrom-front s 0 (b ∷ take n bs) (drop n bs) w)
    (have_samples m s (drop n bs) (fewer n m b bs l) a back)))
    (λ (k : length (b ∷ bs) ≤ s.interval). last_samples s b bs a k h)
    (cases_lt s.interval (length (b ∷ bs)))

pub samples-of_blocks : (s : Settings) (blocks : List Block) → IsAllowed s → AreBlocksFrom s 0 blocks → (samples : List ℤ) × FillBlocks s samples blocks
unfolding HasSamples
samples-of_blocks s blocks a h = have_samples (length blocks) s blocks (omega arith) a h
