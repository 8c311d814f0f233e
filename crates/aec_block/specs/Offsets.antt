-- For proofs alone: no public contract cites this file.
-- What the private functions of `mapping` and `mapping::small_differences` compute: the mapping on
-- offsets from the least sample, of which `top` is the greatest. The contracts of `map`,
-- `map_list`, `unmap` and `unmap_into` cite `mapped_value` and `mapped_after` instead.
use Rattle.std.specs.Prelude.{ℕ, ◌+◌, ◌-◌, ◌*◌, ◌/◌, ◌%◌, ◌^◌, ◌≤◌, ◌==◌, min, ◌&&◌, nat_le, nat_lt, if◌then◌else◌, ℤ, ◌-ℤ◌, unsigned_abs, ⊤, List, [], ◌∷◌, ◌≡◌}
use Rattle.std.specs.List.{AllByRecursion}
use Rattle.aec_params.specs.declared.settings.Settings.{Settings}
use Rattle.aec_params.specs.Params.{x_min}

-- how far a sample lies above the least one
abbrev pub sample_offset : Settings → ℤ → ℕ
sample_offset s x = unsigned_abs (x -ℤ x_min s)

-- the offset of the greatest sample
abbrev pub top_offset : Settings → ℕ
top_offset s = 2 ^ s.bits - 1

-- how far offsets can lie to either side of p
abbrev pub offset_room : ℕ → ℕ → ℕ
offset_room top p = min p (top - p)

-- what is coded for the offset x at the prediction p
abbrev pub mapped_offset : ℕ → ℕ → ℕ → ℕ
mapped_offset top p x =
    if nat_le p x && nat_le (x - p) (offset_room top p) then 2 * (x - p)
    else (if nat_lt x p && nat_le (p - x) (offset_room top p) then 2 * (p - x) - 1
    else offset_room top p + ((x - p) + (p - x)))

-- x is the only offset for which m is coded at the prediction p
pub record IsUnmapped (top p m x : ℕ) : Type 0 where
  pub held : x ≤ top
  pub undone : mapped_offset top p x ≡ m
  pub only : (y : ℕ) → y ≤ top → mapped_offset top p y ≡ m → y ≡ x

-- what is coded for offsets, each at the one before it, which is p for the first
abbrev pub mapped_offsets : ℕ → ℕ → List ℕ → List ℕ
mapped_offsets top p [] = []
mapped_offsets top p (x ∷ xs) = mapped_offset top p x ∷ mapped_offsets top x xs

-- offsets for which values are coded, each at the one before it, which is p for the first
pub record AreUnmapped (top p : ℕ) (values offsets : List ℕ) : Type 0 where
  pub within : AllByRecursion (λ x. x ≤ top) offsets
  pub mapped : mapped_offsets top p offsets ≡ values

-- the offset for which m is coded at p, if both sides of p have room for it: above p for even m,
-- below for odd
abbrev pub near_offset : ℕ → ℕ → ℕ
near_offset p m = if m % 2 == 0 then p + m / 2 else p - (m / 2 + 1)

-- the difference for which the near value m is coded, modulo 2^32
abbrev pub near_difference : ℕ → ℕ
near_difference m = if m % 2 == 0 then m / 2 else 2 ^ 32 - (m / 2 + 1)

-- mapped values that have room on both sides of the offset before each; before the first it is p
abbrev pub AreNear : ℕ → ℕ → List ℕ → Type 0
AreNear top p [] = ⊤
AreNear top p (m ∷ ms) = (m ≤ 2 * offset_room top p) × AreNear top (near_offset p m) ms

-- the offset for which m is coded at p, if at least m offsets lie above p; modulo 2^32
abbrev pub low_offset : ℕ → ℕ → ℕ
low_offset p m = if nat_le m (2 * p) then (p + near_difference m) % 2 ^ 32 else m

-- such offsets for values, each at the one before it, which is p for the first
abbrev pub low_offsets : ℕ → List ℕ → List ℕ
low_offsets p [] = []
low_offsets p (m ∷ ms) = low_offset p m ∷ low_offsets (low_offset p m) ms

-- the places where consecutive differences start, the first at p, modulo 2^32
abbrev pub places_before : ℕ → List ℕ → List ℕ
places_before p [] = []
places_before p (d ∷ ds) = p ∷ places_before ((p + d) % 2 ^ 32) ds

-- the places that these differences lead to
abbrev pub places_after : ℕ → List ℕ → List ℕ
places_after p [] = []
places_after p (d ∷ ds) = ((p + d) % 2 ^ 32) ∷ places_after ((p + d) % 2 ^ 32) ds
