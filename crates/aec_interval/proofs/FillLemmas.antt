-- One block: its samples, and the filler.
use Rattle.std.proofs.Common.{◌≡◌, ℕ, ◌+◌, ◌^◌, ◌<◌, Bool, true, false, if◌then◌else◌, Option, Some, None, ℤ, pos, List, [], ◌∷◌, ◌++◌, length, replicate, refl, sym, ap, ap₂, ◌∙◌, arith}
use Rattle.std.specs.Prelude.{unwrap_or}
use Rattle.std.specs.List.{AllByRecursion, last_or}
use Rattle.std.proofs.lemmas.Bool.{cond_both}
use Rattle.aec_params.specs.declared.settings.Settings.{Settings}
use Rattle.aec_params.specs.Params.{IsAllowed, IsHeld, sample_pattern}
use Rattle.aec_params.specs.Cutting.{up_to_multiple}
use Rattle.aec_params.specs.Mapping.{mapped_value, mapped_after}
use Rattle.aec_params.specs.Blocks.{filled_samples}
use Rattle.aec_params.proofs.PatternLaws.{pattern-fits}
use Rattle.aec_params.proofs.SettingLaws.{block_size-most}
use Rattle.aec_params.specs.BlockShapes.{HasReferencePlace}
use Rattle.aec_block.specs.BlockShape.{block_with}
use Rattle.aec_block.specs.Choices.{FitsReference, IsFull}
use Rattle.aec_interval.specs.Chunks.{values_after, reference_after, block_after, HoldsPrevious, AreSamplesAfter, IsFilledBlock}
use Rattle.aec_interval.proofs.BlockLemmas.{all-mapped_after, all-mapped_values, all-filled_samples}
use Rattle.aec_interval.specs.NextBlock.{last_sample}
use Rattle.aec_interval.proofs.MappedLemmas.{mapped_after-replicate}
use Rattle.aec_interval.proofs.FillingLemmas.{last_sample-kept}
use Rattle.aec_interval.proofs.ChunkLemmas.{values_after-append, length-values_after, length-filled_block}

-- the values of samples are below 2^n; the block that they fill is full (`IsFull`)
small_values : (s : Settings) (o : Option ℤ) (v : List ℤ) → IsAllowed s → HoldsPrevious s o → AllByRecursion (IsHeld s) v
    → AllByRecursion (λ m. m < 2 ^ s.bits) (values_after s o v)
small_values s None v a h k = all-mapped_values s v a k
small_values s (Some p) v a h k = all-mapped_after s p v a h k

fits_reference : (s : Settings) (o : Option ℤ) (x : ℤ) (v : List ℤ) → IsAllowed s → IsHeld s x → FitsReference s (reference_after s o (x ∷ v))
fits_reference s None x v a h = cond_both s.preprocess (Some (sample_pattern s x)) None (FitsReference s) (λ _. pattern-fits s x a h) (λ _. tt)
fits_reference s (Some p) x v a h = tt

pub IsFull-block_after : (s : Settings) (o : Option ℤ) (v : List ℤ) → IsAllowed s → 0 < length v → AreSamplesAfter s o 1 v → IsFull s (block_after s o v)
IsFull-block_after s o [] a some h = absurd (omega arith)
IsFull-block_after s o (x ∷ v) a some h =
    record {
      len = length-values_after s o (filled_samples s (x ∷ v)) ∙ length-filled_block s (x ∷ v) some (omega arith);
      values = small_values s o (filled_samples s (x ∷ v)) a h.previous_held (all-filled_samples s x v h.held);
      reference = fits_reference s o x v a h.held.0;
    }

-- the values of one block: of its samples, and of the filler
values-filled : (s : Settings) (o : Option ℤ) (x last : ℤ) (xs : List ℤ) (n : ℕ) → length (x ∷ xs) + n ≡ s.block_size → Some last ≡ last_or (Some x) xs
    → values_after s o (x ∷ xs) ++ replicate n (mapped_value s last last) ≡ values_after s o (filled_samples s (x ∷ xs))
values-filled s o x last xs n size f =
    ap (λ l. values_after s o (x ∷ xs) ++ l) (cc (mapped_after-replicate s last n)) ∙ sym (values_after-append s o (x ∷ xs) (replicate n last))
    ∙ ap₂ (λ k y. values_after s o ((x ∷ xs) ++ replicate k y)) missing (cc)
  where
    filled : length (x ∷ xs) + up_to_multiple s.block_size (length (x ∷ xs)) ≡ s.block_size
    filled = grind arith

    missing : n ≡ up_to_multiple s.block_size (length (x ∷ xs))
    missing = omega (arith, filled)

-- 0 is in the reference place, if there is one
first-placed : (b : Bool) (r v : ℕ) (values : List ℕ) → HasReferencePlace (if b then Some r else None) ((if b then 0 else v) ∷ values)
first-placed true r v values = refl
first-placed false r v values = refl

after-placed : (s : Settings) (o : Option ℤ) (x : ℤ) (xs more : List ℤ) → HasReferencePlace (reference_after s o (x ∷ xs)) (values_after s o (x ∷ more))
after-placed s None x xs more = first-placed s.preprocess (sample_pattern s x) (sample_pattern s x) (mapped_after s x more)
after-placed s (Some p) x xs more = refl

pub is_filled : (s : Settings) (o : Option ℤ) (v : List ℤ) (last : ℤ) (reference : Option ℕ) (front behind values : List ℕ) (n : ℕ) → IsAllowed s
    → 0 < length v → AreSamplesAfter s o 1 v → length v + n ≡ s.block_size → last ≡ last_sample v → reference ≡ reference_after s o v
    → values ≡ front ++ behind → front ≡ values_after s o v → behind ≡ replicate n (mapped_value s last last)
    → IsFilledBlock s o v (block_with reference values)
is_filled s o [] last reference front behind values n allowed some samples size is_last is_reference joined mapped filled = absurd (omega arith)
is_filled s o (x ∷ xs) last reference front behind values n allowed some samples size is_last is_reference joined mapped filled =
    let same : values ≡ values_after s o (filled_samples s (x ∷ xs)) =
    rw (joined, mapped, filled, values-filled s o x last xs n size (last_sample-kept (x ∷ xs) x last xs refl is_last)) in
    let value : block_with reference values ≡ block_after s o (x ∷ xs) = rw (is_reference, same) in
    let full : IsFull s (block_with reference values) = rw value (IsFull-block_after s o (x ∷ xs) allowed some samples) in
    record {
      value = value;
      full = full;
      sound = record {
        len = omega (arith, block_size-most s allowed);
        placed = rw (is_reference, same)
            (after-placed s o x xs (xs ++ replicate (up_to_multiple s.block_size (length (x ∷ xs))) (unwrap_or (last_or (Some x) xs) (pos 0))));
      };
    }
