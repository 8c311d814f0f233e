-- The sample from which the next one is predicted.
use Rattle.std.proofs.Common.{◌≡◌, Option, Some, None, ℤ, List, [], ◌∷◌, length, slice_get, sub-one, ◌-◌, refl}
use Rattle.std.specs.List.{last_or}
use Rattle.aec_interval.specs.NextBlock.{last_sample}

pub last_or-some : (o : Option ℤ) (x : ℤ) (xs : List ℤ) → last_or o (x ∷ xs) ≡ slice_get (x ∷ xs) (length xs)
last_or-some o x [] = refl
last_or-some o x (y ∷ xs) = last_or-some (Some x) y xs

pub last_or-read : (xs : List ℤ) → last_or None xs ≡ slice_get xs (length xs - 1)
last_or-read [] = refl
last_or-read (x ∷ xs) = rw (last_or-some, sub-one)

last_sample-some : (x : ℤ) (xs : List ℤ) → Some (last_sample (x ∷ xs)) ≡ last_or (Some x) xs
last_sample-some x [] = refl
last_sample-some x (y ∷ xs) = last_sample-some y xs

pub last_sample-kept : (v : List ℤ) (x last : ℤ) (xs : List ℤ) → v ≡ x ∷ xs → last ≡ last_sample v → Some last ≡ last_or (Some x) xs
last_sample-kept v x last xs whole e = rw (e, whole, last_sample-some)
