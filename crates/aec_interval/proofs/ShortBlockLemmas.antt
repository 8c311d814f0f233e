-- The values of a short block, pushed one by one.
use Rattle.std.proofs.Common.{◌≡◌, ℕ, suc, ◌+◌, ◌<◌, Option, ℤ, pos, List, [], ◌∷◌, ◌++◌, length, drop, get_or, drop-cons, append_assoc, arith}
use Rattle.std.specs.Prelude.{unwrap_or}
use Rattle.std.specs.List.{AllByRecursion}
use Rattle.aec_params.specs.declared.settings.Settings.{Settings}
use Rattle.aec_params.specs.Params.{IsAllowed, IsHeld}
use Rattle.aec_params.specs.Mapping.{mapped_value, mapped_after}
use Rattle.aec_params.specs.Places.{placed_values}
use Rattle.aec_interval.specs.Chunks.{values_after, reference_after}

-- the values of the samples up to p were pushed; with those of the rest they are the whole list
pub record MappedSoFar (s : Settings) (p : ℤ) (rest : List ℤ) (values whole : List ℕ) : Type 0 where
  pub previous_held : IsHeld s p
  pub held : AllByRecursion (IsHeld s) rest
  pub joined : values ++ mapped_after s p rest ≡ whole

-- one more value is pushed
pub mapped-more : (s : Settings) (p q x : ℤ) (xs : List ℤ) (i : ℕ) (values whole new : List ℕ) (v : ℕ) → i < length xs → q ≡ p
    → x ≡ get_or xs i (pos 0) → MappedSoFar s p (drop i xs) values whole → v ≡ mapped_value s q x → new ≡ values ++ v ∷ []
    → MappedSoFar s x (drop (i + 1) xs) new whole
mapped-more s p q x xs i values whole new v within is_q is_x so_far is_v is_new =
    record {
      previous_held = cut_held.0;
      held = cut_held.1;
      joined = rw (is_new, append_assoc, is_v, is_q) (rw cut at so_far.joined);
    }
  where
    next : i + 1 ≡ suc i
    next = omega arith

    cut : drop i xs ≡ x ∷ drop (i + 1) xs
    cut = rw (next, is_x) (drop-cons xs i (pos 0) within)

    cut_held : AllByRecursion (IsHeld s) (x ∷ drop (i + 1) xs)
    cut_held = rw cut at so_far.held

-- values pushed after the reference place are the whole list
pub mapped-whole : (s : Settings) (o : Option ℤ) (v : List ℤ) (p : ℤ) (reference : Option ℕ) (values new : List ℕ) (n : ℕ) → IsAllowed s → 0 < length v
    → p ≡ unwrap_or o (get_or v 0 (pos 0)) → AllByRecursion (IsHeld s) v → reference ≡ reference_after s o v
    → values ≡ placed_values reference [] → n ≡ length values → new ≡ values ++ mapped_after s p (drop n v) → new ≡ values_after s o v
mapped-whole s o v p reference values new n allowed some is_p held is placed count is_new = grind arith
