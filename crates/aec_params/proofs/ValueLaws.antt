-- At each prediction, mapped values are one-to-one between the samples and the numbers below 2^n,
-- with preprocessing and without it.
use Rattle.std.proofs.Common.{◌≡◌, ℕ, ◌^◌, ◌<◌, Bool, true, false, cond, ℤ, inl, inr, ⊎_elim, ◌⊎◌}
use Rattle.std.specs.Prelude.{◌-ℤ◌}
use Rattle.std.proofs.lemmas.Bool.{cond_both}
use Rattle.aec_params.specs.declared.settings.Settings.{Settings}
use Rattle.aec_params.specs.Params.{IsAllowed, IsHeld, sample_pattern}
use Rattle.aec_params.specs.Mapping.{room_around, mapped_error, mapped_value}
use Rattle.aec_params.specs.Laws.{EachValueIsOneSample, EachPatternIsOneSample, SamplesAreValues}
use Rattle.aec_params.proofs.MappingLaws.{error-fits, error-one_to_one, error-reaches}
use Rattle.aec_params.proofs.PatternLaws.{pattern-fits, pattern-one_to_one, pattern-reaches}

pub mapped_value-fits : (s : Settings) (p x : ℤ) → IsAllowed s → IsHeld s p → IsHeld s x → mapped_value s p x < 2 ^ s.bits
mapped_value-fits s p x allowed held held_x =
    cond_both s.preprocess (mapped_error (room_around s p) (x -ℤ p)) (sample_pattern s x) (λ (v : ℕ). v < 2 ^ s.bits)
    (λ _. error-fits s p x allowed held held_x) (λ _. pattern-fits s x allowed held_x)

same_choice : (b : Bool) (u v w z : ℕ) → cond b u v ≡ cond b w z → (u ≡ w) ⊎ (v ≡ z)
same_choice true u v w z e = inl e
same_choice false u v w z e = inr e

pub mapped_value-one_to_one : (s : Settings) (p x y : ℤ) → IsAllowed s → IsHeld s p → IsHeld s x → IsHeld s y
    → mapped_value s p x ≡ mapped_value s p y → x ≡ y
mapped_value-one_to_one s p x y allowed held held_x held_y e =
    ⊎_elim (error-one_to_one s p x y allowed held held_x held_y) (pattern-one_to_one s x y allowed held_x held_y)
    (same_choice s.preprocess (mapped_error (room_around s p) (x -ℤ p)) (sample_pattern s x)
    (mapped_error (room_around s p) (y -ℤ p)) (sample_pattern s y) e)

reaches : (s : Settings) (p : ℤ) (m : ℕ) (b : Bool) → IsAllowed s → IsHeld s p → m < 2 ^ s.bits
    → (x : ℤ) × IsHeld s x × (cond b (mapped_error (room_around s p) (x -ℤ p)) (sample_pattern s x) ≡ m)
reaches s p m true allowed held l = error-reaches s p m allowed held l
reaches s p m false allowed held l = pattern-reaches s m allowed l

pub mapped_value-reaches : (s : Settings) (p : ℤ) (m : ℕ) → IsAllowed s → IsHeld s p → m < 2 ^ s.bits
    → (x : ℤ) × IsHeld s x × (mapped_value s p x ≡ m)
mapped_value-reaches s p m allowed held l = reaches s p m s.preprocess allowed held l

values : (s : Settings) (p : ℤ) → IsAllowed s → IsHeld s p → EachValueIsOneSample s p
values s p allowed held = record {
  fits = λ x h. mapped_value-fits s p x allowed held h;
  one_to_one = λ x y h k e. mapped_value-one_to_one s p x y allowed held h k e;
  onto = λ m l. mapped_value-reaches s p m allowed held l;
}

patterns : (s : Settings) → IsAllowed s → EachPatternIsOneSample s
patterns s allowed = record {
  fits = λ x h. pattern-fits s x allowed h;
  one_to_one = λ x y h k e. pattern-one_to_one s x y allowed h k e;
  onto = λ m l. pattern-reaches s m allowed l;
}

pub values_are_samples : SamplesAreValues
values_are_samples = record { values = values; patterns = patterns }
