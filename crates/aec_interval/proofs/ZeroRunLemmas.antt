-- Zero blocks that come next, one after the other.
use Rattle.std.proofs.Common.{◌≡◌, ℕ, zero, suc, ◌+◌, ◌*◌, ◌/◌, ◌%◌, ◌<◌, ◌≤◌, ◌==◌, ◌&&◌, Bool, true, false, Option, Some, None, ℤ, pos, List, [], ◌∷◌, ◌++◌, length, take, drop, replicate, ◌-◌, ◌^◌, refl, sym, ap, ap₂, ◌∙◌, append_assoc, add-one, arith}
use Rattle.std.proofs.Math.Nat.{mod-lt, zero-mul, one-mul, suc-mul, mul-pos, mul-lt-mul_of_pos_right}
use Rattle.std.proofs.lemmas.Nat.{div-add-mod', mod-mul-add}
use Rattle.std.proofs.lemmas.Bool.{ne_eqb}
use Rattle.std.proofs.lemmas.List.{length-append, length-replicate, replicate-append-replicate, take_all}
use Rattle.aec_params.specs.declared.settings.Settings.{Settings}
use Rattle.aec_params.specs.Params.{IsAllowed, IsHeld, interval_len, sample_pattern, pattern_value}
use Rattle.aec_params.specs.Mapping.{mapped_value, mapped_after}
use Rattle.aec_params.specs.Blocks.{Block}
use Rattle.aec_params.specs.CodedDataSets.{HasReference}
use Rattle.aec_params.specs.Places.{zero_block, is_reference_block}
use Rattle.aec_params.specs.BlockShapes.{IsBlockAt}
use Rattle.aec_params.proofs.StreamLaws.{zero_block_at}
use Rattle.aec_interval.specs.NextBlock.{last_sample, IsNextBlock, FillsNext, run_blocks, sample_of_zeros}
use Rattle.aec_interval.specs.Reached.{AreFilled}
use Rattle.aec_params.proofs.SettingLaws.{block_size-positive, interval-positive}
use Rattle.aec_params.proofs.ListLaws.{all-replicate}
use Rattle.aec_params.proofs.ParamsLemmas.{value-pattern}
use Rattle.aec_params.proofs.PatternLaws.{pattern-reaches}
use Rattle.aec_block.specs.Unmapping.{Unmaps}
use Rattle.aec_block.proofs.MappingLemmas.{mapped_value-pattern}
use Rattle.aec_block.proofs.ListMappingLemmas.{last_or-append}
use Rattle.aec_interval.proofs.ChunkLemmas.{last_or-replicate}
use Rattle.aec_interval.proofs.MappedLemmas.{mapped_after-replicate}
use Rattle.aec_interval.proofs.NextFillLemmas.{held-zero, held-last_sample, mapped_value-self, fills_single, fills_reference, reference-below}

-- the samples of i blocks end an interval exactly if i is a multiple of r
starts_alike : (j r i : ℕ) → 0 < j → 0 < r → (i * j % (j * r) == 0) ≡ (i % r == 0)
starts_alike j r i some positive = rw (whole, mod-mul-add (i / r) (j * r) (i % r * j) below, zero_alike)
  where
    whole : i * j ≡ i / r * (j * r) + i % r * j
    whole = omega (arith, ap (λ n. n * j) (div-add-mod' i r))

    below : i % r * j < j * r
    below = omega (arith, mul-lt-mul_of_pos_right (mod-lt i positive) some)

    zero_alike : (m : ℕ) → (m * j == 0) ≡ (m == 0)
    zero_alike zero = rw zero-mul
    zero_alike (suc m) = ne_eqb (suc m * j) 0 (λ e. absurd (omega arith)) ∙ sym (ne_eqb (suc m) 0 (λ e. absurd (omega arith)))

pub HasReference-next : (s : Settings) (i : ℕ) (samples : List ℤ) (reference : Option ℕ) → IsAllowed s → AreFilled s i samples
    → HasReference s (is_reference_block s (i % s.interval)) reference
    → HasReference s (s.preprocess && (length samples % interval_len s == 0)) reference
HasReference-next s i samples reference allowed filled due =
    rw (filled.filled.whole, filled.count_is, starts_alike s.block_size s.interval i (block_size-positive s allowed) (interval-positive s allowed))
    due

-- a block that can be at its place can come next
pub next_in_place : (s : Settings) (i : ℕ) (samples : List ℤ) (b : Block) → IsAllowed s → AreFilled s i samples → IsBlockAt s (i % s.interval) b
    → IsNextBlock s samples b
next_in_place s i samples b allowed filled at = record {
  reference = HasReference-next s i samples b.reference allowed filled at.reference;
  count = at.count;
  below = at.below;
  place = at.place;
}

pub zero_block-next : (s : Settings) (i : ℕ) (samples : List ℤ) (reference : Option ℕ) → IsAllowed s → AreFilled s i samples
    → HasReference s (is_reference_block s (i % s.interval)) reference
    → IsNextBlock s samples (zero_block s reference)
zero_block-next s i samples reference allowed filled due =
    next_in_place s i samples (zero_block s reference) allowed filled (zero_block_at s (i % s.interval) reference allowed due)

pub length-run_blocks : (s : Settings) (reference : Option ℕ) (z : ℕ) → length (run_blocks s reference z) ≡ z
length-run_blocks s reference zero = refl
length-run_blocks s reference (suc z) = rw length-replicate

pub AreFilled-next : (s : Settings) (i k : ℕ) (old new : List ℤ) (more : List Block) → AreFilled s i old → FillsNext s old new more → length more ≡ k
    → AreFilled s (i + k) new
AreFilled-next s i k old new more filled fills len = record {
  blocks = filled.blocks ++ more;
  filled = fills filled.blocks filled.filled;
  count_is = rw (length-append, filled.count_is, len);
}

-- a block within an interval has no reference
pub no_reference-later : (s : Settings) (i k : ℕ) → 1 ≤ k → i % s.interval + k < s.interval → HasReference s (is_reference_block s ((i + k) % s.interval)) None
no_reference-later s i k some within = rw not_first tt
  where
    place : (i + k) % s.interval ≡ i % s.interval + k
    place = grind arith

    and_false : (b : Bool) → (b && false) ≡ false
    and_false true = refl
    and_false false = refl

    not_first : is_reference_block s ((i + k) % s.interval) ≡ false
    not_first = rw (place, ne_eqb (i % s.interval + k) 0 (λ e. absurd (omega arith)), and_false)

-- one more zero block
pub run_blocks-push : (s : Settings) (reference : Option ℕ) (z : ℕ) → 1 ≤ z
    → run_blocks s reference (z + 1) ≡ run_blocks s reference z ++ zero_block s None ∷ []
run_blocks-push s reference zero some = absurd (omega arith)
run_blocks-push s reference (suc z) some = rw (add-one, replicate-push)
  where
    replicate-push : {X : Type 0} (n : ℕ) (x : X) → replicate (suc n) x ≡ replicate n x ++ x ∷ []
    replicate-push zero x = refl
    replicate-push (suc n) x = rw (replicate-push n x)

pub FillsNext-push : (s : Settings) (old mid new : List ℤ) (reference : Option ℕ) (z : ℕ) → 1 ≤ z → FillsNext s old mid (run_blocks s reference z)
    → FillsNext s mid new (zero_block s None ∷ [])
    → FillsNext s old new (run_blocks s reference (z + 1))
FillsNext-push s old mid new reference z some first later blocks filled =
    rw (append_assoc, ← run_blocks-push) at (later (blocks ++ run_blocks s reference z) (first blocks filled))

-- ---- the samples of zero blocks

-- n zeros unmap to n samples x, the first with the prediction p
unmaps-zeros : (s : Settings) (p x : ℤ) (n : ℕ) (old : List ℤ) → IsHeld s x → mapped_value s p x ≡ 0 → mapped_value s x x ≡ 0
    → Unmaps s p (replicate n 0) old (old ++ replicate n x)
unmaps-zeros s p x n old held first later =
    record { more = replicate n x; appended = refl; held = all-replicate (IsHeld s) n x held; mapped = zeros n }
  where
    zeros : (n : ℕ) → mapped_after s p (replicate n x) ≡ replicate n 0
    zeros zero = refl
    zeros (suc n) = rw (first, mapped_after-replicate s x n, later)

-- zeros after the reference place unmap to samples x after the reference sample x
unmaps-reference : (s : Settings) (x : ℤ) (n : ℕ) (old : List ℤ) → 0 < n → IsHeld s x → mapped_value s x x ≡ 0
    → Unmaps s x (drop 1 (replicate n 0)) (old ++ x ∷ []) (old ++ replicate n x)
unmaps-reference s x zero old some held later = absurd (omega arith)
unmaps-reference s x (suc n) old some held later = rw append_assoc at (unmaps-zeros s x x n (old ++ x ∷ []) held later later)

-- what has to hold of the sample x that a run repeats
pub record Repeats (s : Settings) (reference : Option ℕ) (old : List ℤ) (x : ℤ) : Type 0 where
  pub held : IsHeld s x
  pub later : mapped_value s x x ≡ 0
  pub begins : (p : ℤ) → reference ≡ None → p ≡ last_sample old → mapped_value s p x ≡ 0
  pub pattern : (r : ℕ) → reference ≡ Some r → sample_pattern s x ≡ r

-- the sample that a zero block repeats, case by case
pub sample_of_zeros-reference : (s : Settings) (reference : Option ℕ) (old : List ℤ) (r : ℕ) → reference ≡ Some r
    → sample_of_zeros s reference old ≡ pattern_value s r
sample_of_zeros-reference s reference old r is = rw is

pub sample_of_zeros-predicted : (s : Settings) (reference : Option ℕ) (old : List ℤ) → reference ≡ None → s.preprocess ≡ true
    → sample_of_zeros s reference old ≡ last_sample old
sample_of_zeros-predicted s reference old is on = rw (is, on)

pub sample_of_zeros-plain : (s : Settings) (reference : Option ℕ) (old : List ℤ) → reference ≡ None → s.preprocess ≡ false
    → sample_of_zeros s reference old ≡ pos 0
sample_of_zeros-plain s reference old is off = rw (is, off)

-- a block has a reference only with preprocessing
reference-on : (s : Settings) (p r : ℕ) → HasReference s (is_reference_block s p) (Some r) → s.preprocess ≡ true
reference-on s p r due = grind arith

-- the sample of a pattern
pub sample-of-pattern : (s : Settings) (m : ℕ) → IsAllowed s → m < 2 ^ s.bits → IsHeld s (pattern_value s m) × (sample_pattern s (pattern_value s m) ≡ m)
sample-of-pattern s m allowed small =
    let reached = pattern-reaches s m allowed small in
    let x : ℤ = reached.0 in
    let value : pattern_value s m ≡ x = cc (reached.2, value-pattern s x allowed reached.1) in
    (rw value reached.1, rw value reached.2)

pub repeats-zeros : (s : Settings) (i : ℕ) (old : List ℤ) (reference : Option ℕ) (x : ℤ) → IsAllowed s → AreFilled s i old
    → HasReference s (is_reference_block s (i % s.interval)) reference → x ≡ sample_of_zeros s reference old → Repeats s reference old x
repeats-zeros s i old (Some r) x allowed filled due is =
    let on = reference-on s (i % s.interval) r due in
    let found = sample-of-pattern s r allowed (reference-below s (is_reference_block s (i % s.interval)) r due) in
    let held : IsHeld s x = rw is found.0 in
    record {
      held = held;
      later = mapped_value-self s x allowed on held;
      begins = λ p none at. absurd (cc);
      pattern = λ q e. rw is (found.1 ∙ (cc));
    }
repeats-zeros s i old None x allowed filled due is = by_preprocess s.preprocess refl
  where
    by_preprocess : (b : Bool) → s.preprocess ≡ b → Repeats s None old x
    by_preprocess true on =
        let last : x ≡ last_sample old = rw (is, on) in
        let held : IsHeld s x = rw last (held-last_sample s old allowed filled.filled.held) in
        let itself : mapped_value s x x ≡ 0 = mapped_value-self s x allowed on held in
        record {
          held = held;
          later = itself;
          begins = λ p none is_p. rw (is_p, ← last) itself;
          pattern = λ r e. absurd (cc);
        }
    by_preprocess false off =
        let zero_is : x ≡ pos 0 = rw (is, off) in
        let any : (p : ℤ) → mapped_value s p x ≡ 0 = λ p. rw (mapped_value-pattern, zero_is) in
        record {
          held = rw zero_is (held-zero s allowed);
          later = any x;
          begins = λ p none at. any p;
          pattern = λ r e. absurd (cc);
        }

fills-one : (s : Settings) (old : List ℤ) (reference : Option ℕ) (x : ℤ) → IsAllowed s → IsNextBlock s old (zero_block s reference) → Repeats s reference old x
    → FillsNext s old (old ++ replicate s.block_size x) (zero_block s reference ∷ [])
fills-one s old None x allowed next repeats =
    fills_single s old (old ++ replicate s.block_size x) (replicate s.block_size 0) allowed next
    (unmaps-zeros s (last_sample old) x s.block_size old repeats.held (repeats.begins (last_sample old) refl refl) repeats.later)
fills-one s old (Some r) x allowed next repeats =
    fills_reference s old (old ++ replicate s.block_size x) r (replicate s.block_size 0) x allowed next repeats.held (repeats.pattern r refl)
    (unmaps-reference s x s.block_size old (block_size-positive s allowed) repeats.held repeats.later)

last_sample-repeated : (old : List ℤ) (n : ℕ) (x : ℤ) → 0 < n → last_sample (old ++ replicate n x) ≡ x
last_sample-repeated old zero x some = absurd (omega arith)
last_sample-repeated old (suc n) x some = rw (last_or-append, last_or-replicate x n)

-- one more block of a run, after at least one
fills-longer : (s : Settings) (i z : ℕ) (old : List ℤ) (reference : Option ℕ) (x : ℤ) → IsAllowed s → 1 ≤ z → i % s.interval + z < s.interval
    → AreFilled s i old → Repeats s reference old x → FillsNext s old (old ++ replicate (z * s.block_size) x) (run_blocks s reference z)
    → FillsNext s old (old ++ replicate ((z + 1) * s.block_size) x) (run_blocks s reference (z + 1))
fills-longer s i z old reference x allowed some within filled repeats before =
    rw longer at (FillsNext-push s old mid (mid ++ replicate s.block_size x) reference z some before
    (fills-one s mid None x allowed (zero_block-next s (i + z) mid None allowed so_far (no_reference-later s i z some within)) again))
  where
    mid : List ℤ
    mid = old ++ replicate (z * s.block_size) x

    so_far : AreFilled s (i + z) mid
    so_far = AreFilled-next s i z old mid (run_blocks s reference z) filled before (length-run_blocks s reference z)

    again : Repeats s None mid x
    again = record {
      held = repeats.held;
      later = repeats.later;
      begins = λ p none is_p. rw (is_p, last_sample-repeated old (z * s.block_size) x (mul-pos some (block_size-positive s allowed))) repeats.later;
      pattern = λ r e. absurd (cc);
    }

    longer : mid ++ replicate s.block_size x ≡ old ++ replicate ((z + 1) * s.block_size) x
    longer = rw (append_assoc, replicate-append-replicate, add-one, suc-mul)

pub fills-run : (s : Settings) (i z : ℕ) (old : List ℤ) (reference : Option ℕ) (x : ℤ) → IsAllowed s → 1 ≤ z → i % s.interval + z ≤ s.interval
    → HasReference s (is_reference_block s (i % s.interval)) reference → AreFilled s i old → Repeats s reference old x
    → FillsNext s old (old ++ replicate (z * s.block_size) x) (run_blocks s reference z)
fills-run s i zero old reference x allowed some within due filled repeats = absurd (omega arith)
fills-run s i (suc zero) old reference x allowed some within due filled repeats =
    rw one-mul (fills-one s old reference x allowed (zero_block-next s i old reference allowed filled due) repeats)
fills-run s i (suc (suc k)) old reference x allowed some within due filled repeats =
    rw add-one at (fills-longer s i (suc k) old reference x allowed (omega arith) (omega arith) filled repeats
    (fills-run s i (suc k) old reference x allowed (omega arith) (omega arith) due filled repeats))

-- the samples of a run are all appended at once
pub fills-resized : (s : Settings) (i z : ℕ) (old new : List ℤ) (reference : Option ℕ) (kept : ℤ) (len n : ℕ) → IsAllowed s → 1 ≤ z
    → i % s.interval + z ≤ s.interval
    → HasReference s (is_reference_block s (i % s.interval)) reference → AreFilled s i old → kept ≡ sample_of_zeros s reference old → len ≡ length old
    → n ≡ len + z * s.block_size → new ≡ take n old ++ replicate (n - len) kept → FillsNext s old new (run_blocks s reference z)
fills-resized s i z old new reference kept len n allowed some within due filled is len_is n_is pushed =
    rw whole (fills-run s i z old reference kept allowed some within due filled (repeats-zeros s i old reference kept allowed filled due is))
  where
    whole : new ≡ old ++ replicate (z * s.block_size) kept
    whole = pushed ∙ ap₂ (λ front k. front ++ replicate k kept) (take_all n old (omega arith)) (omega arith)

pub ruleset repeated = (sample_of_zeros-reference, sample_of_zeros-predicted, sample_of_zeros-plain)
