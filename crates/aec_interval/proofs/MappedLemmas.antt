-- The filler of a block.
use Rattle.std.proofs.Common.{◌≡◌, ℕ, zero, suc, ℤ, replicate, refl}
use Rattle.aec_params.specs.declared.settings.Settings.{Settings}
use Rattle.aec_params.specs.Mapping.{mapped_value, mapped_after}

-- a sample that repeats its prediction maps to one repeated value
pub mapped_after-replicate : (s : Settings) (p : ℤ) (n : ℕ) → mapped_after s p (replicate n p) ≡ replicate n (mapped_value s p p)
mapped_after-replicate s p zero = refl
mapped_after-replicate s p (suc n) = rw (mapped_after-replicate s p n)
