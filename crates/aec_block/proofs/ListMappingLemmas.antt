-- Lists of samples mapped one by one, and samples recovered from lists of values.
use Rattle.std.proofs.Common.{◌≡◌, ℕ, zero, suc, Bool, if◌then◌else◌, ◌+◌, ◌-◌, ◌<◌, ◌≤◌, ◌^◌, min, Option, Some, true, false, ℤ, pos, List, [], ◌∷◌, ◌++◌, length, map, take, drop, get_or, slice_set, unwrap_or, refl, sym, ap, ap₂, ◌∙◌, subst, append_assoc, append-nil, arith, w64, FitsSigned}
use Rattle.std.proofs.lemmas.List.{length-take, take_more, take_more_set, length-set, map-append}
use Rattle.std.proofs.lemmas.Bool.Decides.{nat_tests}
use Rattle.std.proofs.lemmas.Int.{ints, fits_signed_from_abs}
use Rattle.std.specs.Prelude.{◌+ℤ◌, ◌-ℤ◌, ◌≤ℤ◌, neg_ℤ, unsigned_abs}
use Rattle.std.specs.List.{AllByRecursion, last_or}
use Rattle.aec_params.specs.declared.settings.Settings.{Settings}
use Rattle.aec_params.specs.Params.{IsAllowed, IsHeld, x_min, sample_pattern}
use Rattle.aec_params.specs.Mapping.{mapped_value, mapped_after, mapped_values}
use Rattle.aec_params.proofs.ParamsLemmas.{pow-halves, bits-least, values-most}
use Rattle.aec_params.proofs.ListLaws.{all-append}
use Rattle.aec_block.specs.Offsets.{sample_offset, top_offset, mapped_offset, mapped_offsets}
use Rattle.aec_block.specs.Unmapping.{Unmaps, UnmapsTo}
use Rattle.aec_block.proofs.MappingLemmas.{mapped_value-offsets, mapped_value-pattern, sample_offset-le, held-offset, held-between, values-some}

pub last_or-append : {X : Type 0} (o : Option X) (xs ys : List X) → last_or o (xs ++ ys) ≡ last_or (last_or o xs) ys
last_or-append o [] ys = refl
last_or-append o (x ∷ xs) ys = last_or-append (Some x) xs ys

pub mapped_after-append : (s : Settings) (p : ℤ) (xs ys : List ℤ)
    → mapped_after s p (xs ++ ys) ≡ mapped_after s p xs ++ mapped_after s (unwrap_or (last_or (Some p) xs) (pos 0)) ys
mapped_after-append s p [] ys = refl
mapped_after-append s p (x ∷ xs) ys = ap (λ values. mapped_value s p x ∷ values) (mapped_after-append s x xs ys)

pub length-mapped_after : (s : Settings) (p : ℤ) (xs : List ℤ) → length (mapped_after s p xs) ≡ length xs
length-mapped_after s p [] = refl
length-mapped_after s p (x ∷ xs) = omega (arith, length-mapped_after s x xs)

-- without preprocessing all values are patterns
pub mapped_after-patterns : (s : Settings) (p : ℤ) (xs : List ℤ) → s.preprocess ≡ false → mapped_after s p xs ≡ map (sample_pattern s) xs
mapped_after-patterns s p [] off = refl
mapped_after-patterns s p (x ∷ xs) off = ap₂ (λ v vs. v ∷ vs) (mapped_value-pattern s p x off) (mapped_after-patterns s x xs off)

-- ---- values of samples

-- ---- the sample at an offset

sample_offset-at : (lo : ℤ) (k : ℕ) → unsigned_abs ((lo +ℤ pos k) -ℤ lo) ≡ k
sample_offset-at lo k = omega (arith, ints)

-- samples fit 64 bits
least-fits : (signed : Bool) (h t k : ℕ) → t ≡ h + h → t ≤ 2 ^ 32 → k < 2 ^ 32 → FitsSigned w64 ((if signed then neg_ℤ (pos h) else pos 0) +ℤ pos k)
least-fits false h t k halves most small = fits_signed_from_abs w64 (pos 0 +ℤ pos k) (omega (arith, ints))
least-fits true h t k halves most small = fits_signed_from_abs w64 (neg_ℤ (pos h) +ℤ pos k) (omega (arith, ints))

pub sample_at-fits : (s : Settings) (least above : ℤ) (k : ℕ) → IsAllowed s → least ≡ x_min s → above ≡ pos k → k < 2 ^ 32 → FitsSigned w64 (least +ℤ above)
sample_at-fits s least above k allowed at_least at_above small =
    subst (λ (x : ℤ). FitsSigned w64 x) (sym (ap₂ ◌+ℤ◌ at_least at_above))
    (least-fits s.signed (2 ^ (s.bits - 1)) (2 ^ s.bits) k (pow-halves s.bits (bits-least s allowed)) (values-most s allowed) small)

-- the mapped value of the sample at offset k, predicted from the sample at offset q
mapped_value-at : (s : Settings) (q k : ℕ) → IsAllowed s → s.preprocess ≡ true → q ≤ top_offset s → k ≤ top_offset s
    → mapped_value s (x_min s +ℤ pos q) (x_min s +ℤ pos k) ≡ mapped_offset (top_offset s) q k
mapped_value-at s q k allowed on q_within k_within =
    mapped_value-offsets s (x_min s +ℤ pos q) (x_min s +ℤ pos k) allowed on (held-offset s (x_min s +ℤ pos q) q allowed q_within refl)
    (held-offset s (x_min s +ℤ pos k) k allowed k_within refl)
    ∙ ap₂ (mapped_offset (top_offset s)) (sample_offset-at (x_min s) q) (sample_offset-at (x_min s) k)

-- the offset of a sample above the least one, as code computes it
pub offset-held : (s : Settings) (x kept least : ℤ) → IsAllowed s → IsHeld s x → kept ≡ x → least ≡ x_min s
    → (least ≤ℤ kept) × (unsigned_abs (kept -ℤ least) < 2 ^ 32) × (unsigned_abs (kept -ℤ least) ≡ sample_offset s x)
offset-held s x kept least allowed is_held e least_is =
    (above, omega (arith, same, within, values-most s allowed, values-some s), same ∙ ap (sample_offset s) e)
  where
    held : IsHeld s kept
    held = subst (λ (y : ℤ). IsHeld s y) (sym e) is_held

    above : least ≤ℤ kept
    above = subst (λ (y : ℤ). y ≤ℤ kept) (sym least_is) (held-between s kept held).0

    same : unsigned_abs (kept -ℤ least) ≡ sample_offset s kept
    same = ap (λ (y : ℤ). unsigned_abs (kept -ℤ y)) least_is

    within : sample_offset s kept ≤ top_offset s
    within = sample_offset-le s kept allowed held

pub held-at : (s : Settings) (xs : List ℤ) (i : ℕ) → i < length xs → AllByRecursion (IsHeld s) xs → IsHeld s (get_or xs i (pos 0))
held-at s [] i within held = absurd (omega arith)
held-at s (x ∷ xs) zero within held = held.0
held-at s (x ∷ xs) (suc i) within held = held-at s xs i (omega arith) held.1

-- one more sample in a loop that writes offsets
pub offsets-more : (s : Settings) (xs : List ℤ) (i : ℕ) (values : List ℕ) (k : ℕ) → i < length xs → k ≡ sample_offset s (get_or xs i (pos 0))
    → (take i values ≡ map (sample_offset s) (take i xs)) × (length xs ≡ length values)
    → (take (i + 1) (slice_set values i k) ≡ map (sample_offset s) (take (i + 1) xs)) × (length xs ≡ length (slice_set values i k))
offsets-more s xs i values k within at_k so_far = (
  take_more_set values i k (omega (arith, so_far.1)) ∙ ap₂ (λ vs v. vs ++ v ∷ []) so_far.0 at_k
      ∙ sym (ap (map (sample_offset s)) (take_more xs i (pos 0) within) ∙ map-append (sample_offset s) (take i xs) (get_or xs i (pos 0) ∷ [])),
  so_far.1 ∙ sym (length-set values i k),
)

-- offsets are at most the greatest one, and have the samples' mapped values
pub offsets-within : (s : Settings) (top : ℕ) (xs : List ℤ) → IsAllowed s → top ≡ top_offset s → AllByRecursion (IsHeld s) xs
    → AllByRecursion (λ x. x ≤ top) (map (sample_offset s) xs)
offsets-within s top [] allowed at_top held = tt
offsets-within s top (x ∷ xs) allowed at_top held =
    (omega (arith, at_top, sample_offset-le s x allowed held.0), offsets-within s top xs allowed at_top held.1)

pub mapped_after-offsets : (s : Settings) (p : ℤ) (xs : List ℤ) → IsAllowed s → s.preprocess ≡ true → IsHeld s p → AllByRecursion (IsHeld s) xs
    → mapped_after s p xs ≡ mapped_offsets (top_offset s) (sample_offset s p) (map (sample_offset s) xs)
mapped_after-offsets s p [] allowed on held_p held = refl
mapped_after-offsets s p (x ∷ xs) allowed on held_p held =
    ap₂ (λ v vs. v ∷ vs) (mapped_value-offsets s p x allowed on held_p held.0) (mapped_after-offsets s x xs allowed on held.0 held.1)

-- the mapped value of an interval's first sample, predicted from itself
mapped_value-self : (s : Settings) (x : ℤ) (on : Bool) → s.preprocess ≡ on → IsAllowed s → IsHeld s x
    → mapped_value s x x ≡ (if s.preprocess then 0 else sample_pattern s x)
mapped_value-self s x true on allowed held =
    mapped_value-offsets s x x allowed on held held
    ∙ (no_difference (top_offset s) (sample_offset s x) ∙ ap (λ b. if b then 0 else sample_pattern s x) (sym on))
  where
    no_difference : (top p : ℕ) → mapped_offset top p p ≡ 0
    no_difference top p = grind (arith, nat_tests)
mapped_value-self s x false off allowed held =
    mapped_value-pattern s x x off ∙ ap (λ b. if b then 0 else sample_pattern s x) (sym off)

pub mapped_after-first : (s : Settings) (p : ℤ) (xs : List ℤ) → IsAllowed s → 0 < length xs → p ≡ get_or xs 0 (pos 0) → AllByRecursion (IsHeld s) xs
    → mapped_after s p xs ≡ mapped_values s xs
mapped_after-first s p [] allowed some is held = absurd (omega arith)
mapped_after-first s p (x ∷ xs) allowed some is held =
    ap (λ p. mapped_after s p (x ∷ xs)) is ∙ ap (λ v. v ∷ mapped_after s x xs) (mapped_value-self s x s.preprocess refl allowed held.0)

-- ---- offsets replaced by their mapped values

-- so far: mapped values replace the first i offsets, and p is the last of these
pub record IsMappedSoFar (top previous p i : ℕ) (old new : List ℕ) : Type 0 where
  pub behind : drop i new ≡ drop i old
  pub whole : take i new ++ mapped_offsets top p (drop i old) ≡ mapped_offsets top previous old
  pub within : p ≤ top
  pub rest : AllByRecursion (λ x. x ≤ top) (drop i old)
  pub len : length new ≡ length old

-- ---- samples of values

abbrev pub unmaps-more : (s : Settings) (p x : ℤ) (values : List ℕ) (v : ℕ) (old mid : List ℤ) (so_far : Unmaps s p values old mid) → IsHeld s x
    → mapped_value s (unwrap_or (last_or (Some p) so_far.more) (pos 0)) x ≡ v → Unmaps s p (values ++ v ∷ []) old (mid ++ x ∷ [])
unmaps-more s p x values v old mid so_far held mapped = record {
  more = so_far.more ++ x ∷ [];
  appended = ap (λ items. items ++ x ∷ []) so_far.appended ∙ append_assoc old so_far.more (x ∷ []);
  held = all-append (IsHeld s) so_far.more (x ∷ []) so_far.held (held, tt);
  mapped = mapped_after-append s p so_far.more (x ∷ []) ∙ ap₂ (λ vs v. vs ++ v ∷ []) so_far.mapped mapped;
}

pub unmaps_to-start : (s : Settings) (p : ℤ) (items : List ℤ) → UnmapsTo s p p [] items items
unmaps_to-start s p items = record {
  so_far = record { more = []; appended = sym (append-nil items); held = tt; mapped = refl };
  last_is = refl;
}

-- samples of values, then those of other values, predicted from the last sample
abbrev pub unmaps_to-append : (s : Settings) (p q : ℤ) (values others : List ℕ) (old mid new : List ℤ) → UnmapsTo s p q values old mid
    → Unmaps s q others mid new
    → Unmaps s p (values ++ others) old new
unmaps_to-append s p q values others old mid new front rest = record {
  more = front.so_far.more ++ rest.more;
  appended = rest.appended ∙ (ap (λ items. items ++ rest.more) front.so_far.appended ∙ append_assoc old front.so_far.more rest.more);
  held = all-append (IsHeld s) front.so_far.more rest.more front.so_far.held rest.held;
  mapped = mapped_after-append s p front.so_far.more rest.more
      ∙ ap₂ ◌++◌ front.so_far.mapped (ap (λ (o : Option ℤ). mapped_after s (unwrap_or o (pos 0)) rest.more) front.last_is ∙ rest.mapped);
}

pub unmaps_to-join : (s : Settings) (p q r : ℤ) (values others : List ℕ) (old mid new : List ℤ) → UnmapsTo s p q values old mid → UnmapsTo s q r others mid new
    → UnmapsTo s p r (values ++ others) old new
unmaps_to-join s p q r values others old mid new front rest = record {
  so_far = unmaps_to-append s p q values others old mid new front rest.so_far;
  last_is = last_or-append (Some p) front.so_far.more rest.so_far.more
      ∙ (ap (λ (o : Option ℤ). last_or o rest.so_far.more) front.last_is ∙ rest.last_is);
}

-- one more value in a loop over offsets: from offset q to offset k
pub unmaps_to-offset : (s : Settings) (p kept : ℤ) (values : List ℕ) (i top q k : ℕ) (old mid new : List ℤ) → IsAllowed s → s.preprocess ≡ true
    → top ≡ top_offset s
    → q ≤ top → k ≤ top → i < length values → mapped_offset top q k ≡ get_or values i 0 → kept ≡ x_min s +ℤ pos k → new ≡ mid ++ kept ∷ []
    → UnmapsTo s p (x_min s +ℤ pos q) (take i values) old mid → UnmapsTo s p (x_min s +ℤ pos k) (take (i + 1) values) old new
unmaps_to-offset s p kept values i top q k old mid new allowed on at_top q_within k_within within mapped e pushed to =
    subst (λ new. UnmapsTo s p (x_min s +ℤ pos k) (take (i + 1) values) old new) (sym (pushed ∙ ap (λ x. mid ++ x ∷ []) e))
    (subst (λ values. UnmapsTo s p (x_min s +ℤ pos k) values old (mid ++ (x_min s +ℤ pos k) ∷ [])) (sym (take_more values i 0 within)) more)
  where
    value : mapped_value s (unwrap_or (last_or (Some p) to.so_far.more) (pos 0)) (x_min s +ℤ pos k) ≡ get_or values i 0
    value = ap (λ (o : Option ℤ). mapped_value s (unwrap_or o (pos 0)) (x_min s +ℤ pos k)) to.last_is
        ∙ (mapped_value-at s q k allowed on (omega arith) (omega arith) ∙ (ap (λ (t : ℕ). mapped_offset t q k) (sym at_top) ∙ mapped))

    more : UnmapsTo s p (x_min s +ℤ pos k) (take i values ++ get_or values i 0 ∷ []) old (mid ++ (x_min s +ℤ pos k) ∷ [])
    more = record {
      so_far = unmaps-more s p (x_min s +ℤ pos k) (take i values) (get_or values i 0) old mid to.so_far
          (held-offset s (x_min s +ℤ pos k) k allowed (omega arith) refl) value;
      last_is = last_or-append (Some p) to.so_far.more ((x_min s +ℤ pos k) ∷ []);
    }

-- one more pattern, whatever it is predicted from
pub unmaps-pattern : (s : Settings) (kept x : ℤ) (values : List ℕ) (i : ℕ) (old mid new : List ℤ) → s.preprocess ≡ false → i < length values
    → kept ≡ x → IsHeld s x
    → sample_pattern s x ≡ get_or values i 0 → new ≡ mid ++ kept ∷ [] → ((p : ℤ) → Unmaps s p (take i values) old mid)
    → (p : ℤ) → Unmaps s p (take (i + 1) values) old new
unmaps-pattern s kept x values i old mid new off within e held pattern pushed so_far p =
    subst (λ new. Unmaps s p (take (i + 1) values) old new) (sym (pushed ∙ ap (λ y. mid ++ y ∷ []) e))
    (subst (λ values. Unmaps s p values old (mid ++ x ∷ [])) (sym (take_more values i 0 within))
    (unmaps-more s p x (take i values) (get_or values i 0) old mid (so_far p) held
    (mapped_value-pattern s (unwrap_or (last_or (Some p) (so_far p).more) (pos 0)) x off ∙ pattern)))

-- lists of equal length have equally long first parts
pub length-take_equal : (n : ℕ) (xs ys : List ℤ) → length xs ≡ length ys → length (take n xs) ≡ length (take n ys)
length-take_equal n xs ys same = length-take n xs ∙ ap (min n) same ∙ sym (length-take n ys)
