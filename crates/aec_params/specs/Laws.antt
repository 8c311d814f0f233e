-- The laws of the definitions of the format: codewords distinguish numbers, and values and pieces
-- determine what they were made from.
use Rattle.std.specs.Prelude.{◌≡◌, ℕ, ◌+◌, ◌^◌, ◌<◌, ◌≤◌, Bool, true, ℤ, Option, ⊤, List, [], ◌∷◌, ◌++◌, length, map}
use Rattle.std.specs.List.{flat_map, list_all, AllByRecursion}
use Rattle.aec_params.specs.Codewords.{fs, binary, bits_number, padded_to_byte, bytes_of, bits_of_bytes}
use Rattle.aec_params.specs.Cutting.{pieces_of}
use Rattle.std.specs.Int.{div_ceil, next_multiple_of}
use Rattle.aec_params.specs.CodedDataSets.{pair_number}
use Rattle.aec_params.specs.declared.settings.Settings.{Settings}
use Rattle.aec_params.specs.Params.{IsAllowed, IsHeld, sample_pattern}
use Rattle.aec_params.specs.Mapping.{mapped_value}
use Rattle.aec_params.specs.Blocks.{Block, blocks_of, all_blocks_of}
use Rattle.aec_params.specs.Reading.{FillBlocks, IsBlockReading}
use Rattle.aec_params.specs.BlockShapes.{AreBlocksFrom}

-- ---- codewords

-- two fundamental sequences begin the same bits only if their numbers are equal; the bits after
-- them are then equal too
abbrev pub FundamentalSequencesDiffer : Type 0
FundamentalSequencesDiffer = (a b : ℕ) (u v : List Bool) → fs a ++ u ≡ fs b ++ v → (a ≡ b) × (u ≡ v)

-- two numbers below 2^w, in w bits, begin the same bits only if they are equal; the bits after them
-- are then equal too
abbrev pub BinaryNumbersDiffer : Type 0
BinaryNumbersDiffer = (w a b : ℕ) (u v : List Bool) → a < 2 ^ w → b < 2 ^ w → binary w a ++ u ≡ binary w b ++ v
    → (a ≡ b) × (u ≡ v)

-- codewords have the lengths that their names say
pub record CodewordLengths : Type 0 where
  pub of_fs : (v : ℕ) → length (fs v) ≡ v + 1
  pub of_binary : (w v : ℕ) → length (binary w v) ≡ w

-- numbers of w bits are read back, and bits are spelled again
pub record BinaryNumbersAreReadBack : Type 0 where
  pub number : (w v : ℕ) → v < 2 ^ w → bits_number (binary w v) ≡ v
  pub below : (bits : List Bool) → bits_number bits < 2 ^ length bits
  pub bits : (bits : List Bool) → binary (length bits) (bits_number bits) ≡ bits

-- the code of anything that passes the test determines its key, whatever bits follow
abbrev pub TellsKeys : {X K : Type 0} → (X → Bool) → (X → List Bool) → (X → K) → Type 0
TellsKeys {X} test code key =
    (a b : X) (u v : List Bool) → test a ≡ true → test b ≡ true → code a ++ u ≡ code b ++ v → (key a ≡ key b) × (u ≡ v)

-- a code that determines keys also determines those of lists of equal length
abbrev pub ListsAreTold : Type 0 → Type 0 → Type 0
ListsAreTold X K = (test : X → Bool) (code : X → List Bool) (key : X → K) → TellsKeys test code key
    → (xs ys : List X) (u v : List Bool) → length xs ≡ length ys → list_all test xs ≡ true → list_all test ys ≡ true
    → flat_map code xs ++ u ≡ flat_map code ys ++ v → (map key xs ≡ map key ys) × (u ≡ v)

-- ---- pairs

-- each number is the number of exactly one pair
pub record EachNumberIsOnePair : Type 0 where
  pub one_to_one : (a b c d : ℕ) → pair_number a b ≡ pair_number c d → (a ≡ c) × (b ≡ d)
  pub onto : (m : ℕ) → (a : ℕ) × (b : ℕ) × (pair_number a b ≡ m)

-- ---- samples and values

-- at the prediction p, samples correspond one-to-one to the values below 2^n
pub record EachValueIsOneSample (s : Settings) (p : ℤ) : Type 0 where
  pub fits : (x : ℤ) → IsHeld s x → mapped_value s p x < 2 ^ s.bits
  pub one_to_one : (x y : ℤ) → IsHeld s x → IsHeld s y → mapped_value s p x ≡ mapped_value s p y → x ≡ y
  pub onto : (m : ℕ) → m < 2 ^ s.bits → (x : ℤ) × IsHeld s x × (mapped_value s p x ≡ m)

-- samples correspond one-to-one to their patterns of n bits
pub record EachPatternIsOneSample (s : Settings) : Type 0 where
  pub fits : (x : ℤ) → IsHeld s x → sample_pattern s x < 2 ^ s.bits
  pub one_to_one : (x y : ℤ) → IsHeld s x → IsHeld s y → sample_pattern s x ≡ sample_pattern s y → x ≡ y
  pub onto : (m : ℕ) → m < 2 ^ s.bits → (x : ℤ) × IsHeld s x × (sample_pattern s x ≡ m)

-- samples correspond one-to-one to values and to patterns, at any settings of the format and any
-- prediction that is a sample
pub record SamplesAreValues : Type 0 where
  pub values : (s : Settings) (p : ℤ) → IsAllowed s → IsHeld s p → EachValueIsOneSample s p
  pub patterns : (s : Settings) → IsAllowed s → EachPatternIsOneSample s

-- ---- pieces

-- lists of n members each, except the last, which may be shorter but is not empty
abbrev pub AreCut : {X : Type 0} → ℕ → List (List X) → Type 0
AreCut n [] = ⊤
AreCut n (piece ∷ []) = (0 < length piece) × (length piece ≤ n)
AreCut n (piece ∷ (next ∷ pieces)) = (length piece ≡ n) × AreCut n (next ∷ pieces)

-- the pieces of a list are the only lists that are cut so and join to it
pub record PiecesAreTheCut (X : Type 0) : Type 0 where
  pub join : (n : ℕ) (xs : List X) → 0 < n → flat_map (λ (piece : List X). piece) (pieces_of n xs) ≡ xs
  pub cut : (n : ℕ) (xs : List X) → 0 < n → AreCut n (pieces_of n xs)
  pub count : (n : ℕ) (xs : List X) → 0 < n → length (pieces_of n xs) ≡ div_ceil (length xs) n
  pub unique : (n : ℕ) (pieces : List (List X)) → 0 < n → AreCut n pieces
      → pieces_of n (flat_map (λ (piece : List X). piece) pieces) ≡ pieces

-- if whole pieces come before a list, they are the first pieces of both together
abbrev pub WholePiecesComeFirst : Type 0 → Type 0
WholePiecesComeFirst X = (n : ℕ) (pieces : List (List X)) (xs : List X) → 0 < n
    → AllByRecursion (λ (piece : List X). length piece ≡ n) pieces
    → pieces_of n (flat_map (λ (piece : List X). piece) pieces ++ xs) ≡ pieces ++ pieces_of n xs

-- ---- bytes

-- bits turned into bytes and back are the padded bits; bytes turned into bits and back are the
-- bytes
pub record BytesAreBits : Type 0 where
  pub filled : (bits : List Bool) → length (padded_to_byte bits) ≡ next_multiple_of (length bits) 8
  pub bits : (bits : List Bool) → bits_of_bytes (bytes_of bits) ≡ padded_to_byte bits
  pub count : (bits : List Bool) → length (bytes_of bits) ≡ div_ceil (length bits) 8
  pub below : (bits : List Bool) → AllByRecursion (λ (byte : ℕ). byte < 256) (bytes_of bits)
  pub bytes : (bytes : List ℕ) → AllByRecursion (λ (byte : ℕ). byte < 256) bytes
      → bytes_of (bits_of_bytes bytes) ≡ bytes

-- ---- samples and blocks

-- the number and the blocks of held samples determine the samples, in one interval and in all
pub record BlocksTellSamples : Type 0 where
  pub interval : (s : Settings) (xs ys : List ℤ) → IsAllowed s → AllByRecursion (IsHeld s) xs
      → AllByRecursion (IsHeld s) ys
      → length xs ≡ length ys → blocks_of s xs ≡ blocks_of s ys → xs ≡ ys
  pub all : (s : Settings) (xs ys : List ℤ) → IsAllowed s → AllByRecursion (IsHeld s) xs → AllByRecursion (IsHeld s) ys
      → length xs ≡ length ys → all_blocks_of s xs ≡ all_blocks_of s ys → xs ≡ ys

-- the blocks of held samples are exactly the blocks in the format's shape
pub record SamplesAreBlocks : Type 0 where
  pub shape : (s : Settings) (xs : List ℤ) → IsAllowed s → AllByRecursion (IsHeld s) xs
      → AreBlocksFrom s 0 (all_blocks_of s xs)
  pub onto : (s : Settings) (blocks : List Block) → IsAllowed s → AreBlocksFrom s 0 blocks
      → (samples : List ℤ) × FillBlocks s samples blocks

-- each reading of blocks is a reading of samples, and of only one list
pub record ReadingsHaveSamples : Type 0 where
  pub samples : (s : Settings) (count : Option ℕ) (limit : ℕ) (bits : List Bool) (blocks : List Block) → IsAllowed s
      → IsBlockReading s count limit bits 0 0 blocks → (samples : List ℤ) × FillBlocks s samples blocks
  pub unique : (s : Settings) (xs ys : List ℤ) (blocks : List Block) → IsAllowed s → FillBlocks s xs blocks
      → FillBlocks s ys blocks → xs ≡ ys
