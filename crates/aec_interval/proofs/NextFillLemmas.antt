-- Samples that are unmapped from the values of a block fill that block after the blocks before it.
use Rattle.std.proofs.Common.{◌≡◌, ℕ, zero, suc, ◌%◌, ◌<◌, ◌^◌, ◌==◌, ◌&&◌, Bool, true, false, Option, Some, None, ℤ, pos, List, [], ◌∷◌, ◌++◌, length, drop, refl, sym, ◌∙◌, append_assoc, arith, ◌-◌, neg_ℤ, int_le}
use Rattle.std.proofs.lemmas.Bool.{le-leb}
use Rattle.std.proofs.lemmas.Bool.Decides.{nat_tests}
use Rattle.std.specs.List.{AllByRecursion}
use Rattle.aec_params.specs.declared.settings.Settings.{Settings}
use Rattle.aec_params.specs.Params.{IsAllowed, IsHeld, interval_len, sample_pattern}
use Rattle.aec_params.specs.Mapping.{mapped_value, mapped_after, mapped_values}
use Rattle.aec_params.specs.Blocks.{Block, reference_of}
use Rattle.aec_params.specs.CodedDataSets.{HasReference}
use Rattle.aec_params.specs.BlockShapes.{HasReferencePlace}
use Rattle.aec_params.proofs.SettingLaws.{block_size-positive, interval-positive}
use Rattle.aec_params.proofs.ValueLaws.{mapped_value-one_to_one}
use Rattle.aec_block.specs.Offsets.{sample_offset, top_offset, mapped_offset}
use Rattle.aec_block.specs.Unmapping.{Unmaps}
use Rattle.aec_block.proofs.MappingLemmas.{mapped_value-offsets}
use Rattle.aec_interval.specs.NextBlock.{last_sample, next_block_at, IsNextBlock, FillsNext}
use Rattle.aec_interval.proofs.BlockLemmas.{last_or-held, length-mapped_after}
use Rattle.aec_interval.proofs.ReadingSteps.{FillBlocks-push}

zero_within : (low high : ℕ) → (int_le (neg_ℤ (pos low)) (pos 0) && int_le (pos 0) (pos high)) ≡ true
zero_within zero high = le-leb 0 high (omega arith)
zero_within (suc low) high = le-leb 0 high (omega arith)

pub held-zero : (s : Settings) → IsAllowed s → IsHeld s (pos 0)
held-zero s allowed = by_sign s.signed
  where
    by_sign : (signed : Bool) → IsHeld (record s { signed = signed }) (pos 0)
    by_sign false = zero_within 0 (2 ^ s.bits - 1)
    by_sign true = zero_within (2 ^ (s.bits - 1)) (2 ^ (s.bits - 1) - 1)

pub held-last_sample : (s : Settings) (xs : List ℤ) → IsAllowed s → AllByRecursion (IsHeld s) xs → IsHeld s (last_sample xs)
held-last_sample s [] allowed all = held-zero s allowed
held-last_sample s (x ∷ xs) allowed all = last_or-held (IsHeld s) x (pos 0) xs all.0 all.1

pub reference-below : (s : Settings) (due : Bool) (r : ℕ) → HasReference s due (Some r) → r < 2 ^ s.bits
reference-below s true r has = has
reference-below s false r has = absurd has

-- without preprocessing the prediction makes no difference
pub mapped_values-plain : (s : Settings) (p : ℤ) (xs : List ℤ) → s.preprocess ≡ false → mapped_values s xs ≡ mapped_after s p xs
mapped_values-plain s p [] plain = refl
mapped_values-plain s p (x ∷ xs) plain = simp plain

pub reference_of-plain : (s : Settings) (xs : List ℤ) → s.preprocess ≡ false → reference_of s xs ≡ None
reference_of-plain s [] plain = refl
reference_of-plain s (x ∷ xs) plain = rw plain

abbrev block_of : Option ℕ → List ℕ → Block
block_of reference values = record { reference = reference; values = values }

-- a block with no reference
next_single : (s : Settings) (at_start : Bool) (p : ℤ) (more : List ℤ) (values : List ℕ) → HasReference s (s.preprocess && at_start) None
    → mapped_after s p more ≡ values
    → next_block_at s at_start p more ≡ block_of None values
next_single s false p more values none mapped = rw mapped
next_single s true p more values none mapped = by_preprocess s.preprocess refl none
  where
    by_preprocess : (preprocess : Bool) → s.preprocess ≡ preprocess → HasReference s (preprocess && true) None
        → next_block_at s true p more ≡ block_of None values
    by_preprocess true is none = absurd none
    by_preprocess false is none = rw (reference_of-plain, mapped_values-plain s p, mapped)

pub fills_single : (s : Settings) (old new : List ℤ) (values : List ℕ) → IsAllowed s → IsNextBlock s old (record { reference = None; values = values })
    → Unmaps s (last_sample old) values old new → FillsNext s old new ((record { reference = None; values = values }) ∷ [])
fills_single s old new values allowed next unmaps blocks filled =
    rw unmaps.appended (FillBlocks-push s old unmaps.more blocks (record { reference = None; values = values }) (block_size-positive s allowed)
    (interval-positive s allowed) filled unmaps.held (rw (← (length-mapped_after s (last_sample old)), unmaps.mapped) next.count)
    (next_single s (length old % interval_len s == 0) (last_sample old) unmaps.more values next.reference unmaps.mapped))

-- a block that begins with a reference sample
next_reference : (s : Settings) (at_start : Bool) (r : ℕ) (x : ℤ) (more : List ℤ) (values : List ℕ) (p : ℤ) → HasReference s (s.preprocess && at_start) (Some r)
    → HasReferencePlace (Some r) values → sample_pattern s x ≡ r → mapped_after s x more ≡ drop 1 values
    → next_block_at s at_start p (x ∷ more) ≡ block_of (Some r) values
next_reference s at_start r x more values p has placed pattern mapped = grind arith

pub fills_reference : (s : Settings) (old new : List ℤ) (r : ℕ) (values : List ℕ) (x : ℤ) → IsAllowed s
    → IsNextBlock s old (record { reference = Some r; values = values })
    → IsHeld s x → sample_pattern s x ≡ r → Unmaps s x (drop 1 values) (old ++ x ∷ []) new
    → FillsNext s old new ((record { reference = Some r; values = values }) ∷ [])
fills_reference s old new r values x allowed next held pattern unmaps blocks filled =
    rw (unmaps.appended, append_assoc) (FillBlocks-push s old (x ∷ unmaps.more) blocks
    (record { reference = Some r; values = values }) (block_size-positive s allowed) (interval-positive s allowed) filled (held, unmaps.held)
    (rw (← (length-mapped_after s x), unmaps.mapped) (cc)) (next_reference s (length old % interval_len s == 0) r x unmaps.more values
    (last_sample old) next.reference next.place pattern unmaps.mapped))

-- a sample that equals its prediction maps to 0
pub mapped_value-self : (s : Settings) (x : ℤ) → IsAllowed s → s.preprocess ≡ true → IsHeld s x → mapped_value s x x ≡ 0
mapped_value-self s x allowed on held = mapped_value-offsets s x x allowed on held held ∙ at_itself (top_offset s) (sample_offset s x)
  where
    at_itself : (top a : ℕ) → mapped_offset top a a ≡ 0
    at_itself top a = grind (arith, nat_tests)

-- only the prediction maps to 0, so a 0 in the reference place unmaps to the reference sample x
unmaps-reference_place : (s : Settings) (x : ℤ) (values : List ℕ) (old new : List ℤ) → IsAllowed s → s.preprocess ≡ true → IsHeld s x
    → values ≡ 0 ∷ drop 1 values → Unmaps s x values old new → Unmaps s x (drop 1 values) (old ++ x ∷ []) new
unmaps-reference_place s x values old new allowed on held placed unmaps =
    by_samples unmaps.more unmaps.appended unmaps.held (unmaps.mapped ∙ placed)
  where
    by_samples : (more : List ℤ) → new ≡ old ++ more → AllByRecursion (IsHeld s) more → mapped_after s x more ≡ 0 ∷ drop 1 values
        → Unmaps s x (drop 1 values) (old ++ x ∷ []) new
    by_samples [] appended all mapped = absurd (cc)
    by_samples (y ∷ ys) appended all mapped =
        let none : mapped_value s x y ≡ 0 = cc in
        let later : mapped_after s y ys ≡ drop 1 values = cc in
        let same : y ≡ x = mapped_value-one_to_one s x y x allowed held all.0 held (none ∙ sym (mapped_value-self s x allowed on held)) in
        record {
          more = ys;
          appended = rw (appended, same, append_assoc);
          held = all.1;
          mapped = rw (← same) later;
        }

-- ---- the same, stated by the code's variables

pub values-below : (s : Settings) (b : Block) (old : List ℤ) (values : List ℕ) → IsNextBlock s old b → values ≡ b.values
    → AllByRecursion (λ v. v < 2 ^ s.bits) values
values-below s b old values next e = rw e next.below

pub fills_block_single : (s : Settings) (old new : List ℤ) (b : Block) (p : ℤ) (values : List ℕ) → IsAllowed s → IsNextBlock s old b → b.reference ≡ None
    → p ≡ last_sample old → values ≡ b.values → Unmaps s p values old new → FillsNext s old new (b ∷ [])
fills_block_single s old new b p values allowed next none previous is_values unmaps =
    by_reference b.reference none next (rw (is_values, previous) at unmaps)
  where
    by_reference : (reference : Option ℕ) → reference ≡ None → IsNextBlock s old (block_of reference b.values) → Unmaps s (last_sample old) b.values old new
        → FillsNext s old new (block_of reference b.values ∷ [])
    by_reference None e next unmaps = fills_single s old new b.values allowed next unmaps
    by_reference (Some q) e next unmaps = absurd (cc)

pub fills_block_reference : (s : Settings) (old new : List ℤ) (b : Block) (q : ℕ) (x : ℤ) (values : List ℕ) → IsAllowed s → IsNextBlock s old b
    → b.reference ≡ Some q → IsHeld s x → sample_pattern s x ≡ q → values ≡ b.values → Unmaps s x values old new → FillsNext s old new (b ∷ [])
fills_block_reference s old new b q x values allowed next some held pattern is_values unmaps =
    by_reference b.reference some next (rw is_values at unmaps)
  where
    on : (preprocess at_start : Bool) (r : ℕ) → HasReference s (preprocess && at_start) (Some r) → preprocess ≡ true
    on true at_start r has = refl
    on false at_start r has = absurd has

    by_reference : (reference : Option ℕ) → reference ≡ Some q → IsNextBlock s old (block_of reference b.values) → Unmaps s x b.values old new
        → FillsNext s old new (block_of reference b.values ∷ [])
    by_reference None e next unmaps = absurd (cc)
    by_reference (Some u) e next unmaps =
        fills_reference s old new u b.values x allowed next held (pattern ∙ (cc))
        (unmaps-reference_place s x b.values old new allowed (on s.preprocess (length old % interval_len s == 0) u next.reference) held next.place unmaps)
