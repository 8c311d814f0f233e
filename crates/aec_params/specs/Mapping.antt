-- Prediction and mapping: from samples to the values that are coded.
use Rattle.std.specs.Prelude.{ℕ, ◌+◌, ◌-◌, ◌*◌, ◌&&◌, if◌then◌else◌, ℤ, pos, neg_ℤ, ◌-ℤ◌, nat_abs, int_le, int_lt, List, [], ◌∷◌}
use Rattle.std.specs.Int.{int_min}
use Rattle.aec_params.specs.declared.settings.Settings.{Settings}
use Rattle.aec_params.specs.Params.{x_min, x_max, sample_pattern}

-- how far samples can lie to either side of a prediction p (§4; whole numbers with sign, where the
-- code has 32-bit offsets from the least sample)
abbrev pub room_around : Settings → ℤ → ℤ
room_around s p = int_min (p -ℤ x_min s) (x_max s -ℤ p)

-- the prediction error d of a sample as a number without sign, t being the room around the
-- prediction: differences within t alternate between both sides, and larger ones are numbered after
-- them (§4; numbers as in `room_around`. The inverse has no definition: the contract of `unmap`
-- cites this one)
abbrev pub mapped_error : ℤ → ℤ → ℕ
mapped_error t d =
    if int_le (pos 0) d && int_le d t then 2 * nat_abs d
    else (if int_le (neg_ℤ t) d && int_lt d (pos 0) then 2 * nat_abs d - 1
    else nat_abs t + nat_abs d)

-- what is coded for the sample x at the prediction p; without preprocessing the pattern (§4)
abbrev pub mapped_value : Settings → ℤ → ℤ → ℕ
mapped_value s p x = if s.preprocess then mapped_error (room_around s p) (x -ℤ p) else sample_pattern s x

-- samples mapped in order, the prediction being the sample before, which is p for the first (§4;
-- all at once, where the code carries one sample)
abbrev pub mapped_after : Settings → ℤ → List ℤ → List ℕ
mapped_after s p [] = []
mapped_after s p (x ∷ xs) = mapped_value s p x ∷ mapped_after s x xs

-- an interval's samples mapped; with preprocessing 0 takes the place of the first, the reference
-- sample (§4; all at once, where the code carries one sample)
abbrev pub mapped_values : Settings → List ℤ → List ℕ
mapped_values s [] = []
mapped_values s (x ∷ xs) = (if s.preprocess then 0 else sample_pattern s x) ∷ mapped_after s x xs
