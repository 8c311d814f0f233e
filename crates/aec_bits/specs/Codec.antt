-- What a contract sees of a codec of intervals, and the code of a whole list of samples.
use Rattle.std.specs.Prelude.{◌≡◌, ℕ, ◌≤◌, Bool, true, List, ◌++◌, length, drop, ℤ}
use Rattle.std.specs.Int.{w64}
use Rattle.std.specs.Int.RustNames.{FitsSigned}
use Rattle.std.specs.List.{list_all, flat_map}
use Rattle.aec_params.specs.Cutting.{pieces_of}

-- a way to code intervals: the bits of an interval, the greatest number of samples in one, and
-- which numbers are samples
pub record Format : Type 0 where
  pub bits_of : List ℤ → List Bool
  pub most : ℕ
  pub holds : ℤ → Bool

-- whether all numbers of a list are samples
abbrev pub AreHeld : Format → List ℤ → Type 0
AreHeld f s = list_all f.holds s ≡ true

-- an interval that has a code
pub record IsInterval (f : Format) (s : List ℤ) : Type 0 where
  pub some : 1 ≤ length s
  pub few : length s ≤ f.most
  pub held : AreHeld f s

-- A lawful format: the greatest number of samples in an interval is 1 to 262,144, samples fit
-- signed 64 bits, and the bits of an interval, whatever bits follow, determine it among the
-- intervals of its length. Each codec must prove it.
pub record IsLawful (f : Format) : Type 0 where
  pub some : 1 ≤ f.most
  pub few : f.most ≤ 262144
  pub in_range : (x : ℤ) → f.holds x ≡ true → FitsSigned w64 x
  pub equal_lengths : (a b : List ℤ) (x y : List Bool) → IsInterval f a → IsInterval f b → length a ≡ length b
      → f.bits_of a ++ x ≡ f.bits_of b ++ y → (a ≡ b) × (x ≡ y)

-- the bits of the interval s, of `count` samples, begin at `place` in a list of bits
pub record BeginsAt (f : Format) (bits : List Bool) (place count : ℕ) (s : List ℤ) : Type 0 where
  pub within : place ≤ length bits
  pub interval : IsInterval f s
  pub length_is : length s ≡ count
  pub stands : (rest : List Bool) × (drop place bits ≡ f.bits_of s ++ rest)

-- the code of samples: they are cut into intervals, and the bits of these follow each other (one
-- function of the whole list, without positions)
abbrev pub code_of : Format → List ℤ → List Bool
code_of f s = flat_map f.bits_of (pieces_of f.most s)
