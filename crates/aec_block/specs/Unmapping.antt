-- Lists of samples and of their values: lists of equal length for both, and the samples of values.
use Rattle.std.specs.Prelude.{◌≡◌, ℕ, ◌^◌, ◌<◌, ◌≤◌, true, ℤ, pos, ◌+ℤ◌, List, [], ◌++◌, Some, length}
use Rattle.std.specs.List.{AllByRecursion, last_or}
use Rattle.aec_params.specs.declared.settings.Settings.{Settings}
use Rattle.aec_params.specs.Params.{IsHeld, x_min}
use Rattle.aec_params.specs.Mapping.{mapped_value, mapped_after}
use Rattle.aec_block.specs.Offsets.{top_offset}

-- `new` is `old` followed by the samples whose mapped values are `values`, the first of them
-- predicted from p (stated by the mapping, where the code inverts it)
pub record Unmaps (s : Settings) (p : ℤ) (values : List ℕ) (old new : List ℤ) : Type 0 where
  pub more : List ℤ
  pub appended : new ≡ old ++ more
  pub held : AllByRecursion (IsHeld s) more
  pub mapped : mapped_after s p more ≡ values

-- `new` is `old` followed by the samples whose mapped values are `values`, the first of them
-- predicted from p; `last` is the last of them, or p if there are none
pub record UnmapsTo (s : Settings) (p last : ℤ) (values : List ℕ) (old new : List ℤ) : Type 0 where
  pub so_far : Unmaps s p values old new
  pub last_is : last_or (Some p) so_far.more ≡ Some last

-- x is the only held sample for which m is coded at the prediction p
pub record IsOnlySample (s : Settings) (p : ℤ) (m : ℕ) (x : ℤ) : Type 0 where
  pub held : IsHeld s x
  pub undone : mapped_value s p x ≡ m
  pub only : (y : ℤ) → IsHeld s y → mapped_value s p y ≡ m → y ≡ x

-- held samples, and a list of equal length for their values
pub record HaveValuePlaces (s : Settings) (samples : List ℤ) (places : List ℕ) : Type 0 where
  pub held : AllByRecursion (IsHeld s) samples
  pub len : length samples ≡ length places

-- values of n bits, and a list of equal length for their samples
pub record HaveSamplePlaces (s : Settings) (values : List ℕ) (places : List ℤ) : Type 0 where
  pub mapped : AllByRecursion (λ v. v < 2 ^ s.bits) values
  pub len : length places ≡ length values

-- the samples of values, the first of them predicted from p, replace those of a list, one for one
pub record PutsSamples (s : Settings) (p : ℤ) (values : List ℕ) (old new : List ℤ) : Type 0 where
  pub items : Unmaps s p values [] new
  pub len : length new ≡ length old

-- with preprocessing: the offset of a sample to predict from, values of n bits, and a list of equal
-- length for their samples
pub record CanUnmap (s : Settings) (offset : ℕ) (values : List ℕ) (places : List ℤ) : Type 0 where
  pub on : s.preprocess ≡ true
  pub within : offset ≤ top_offset s
  pub fits : HaveSamplePlaces s values places

-- the samples of values, the first of them predicted from the sample at offset `first`, replace
-- those of a list, one for one; the last of them is at offset `last`
pub record PutsUnmapped (s : Settings) (first last : ℕ) (values : List ℕ) (old new : List ℤ) : Type 0 where
  pub within : last ≤ top_offset s
  pub items : UnmapsTo s (x_min s +ℤ pos first) (x_min s +ℤ pos last) values [] new
  pub len : length new ≡ length old
