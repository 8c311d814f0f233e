-- For proofs alone: no public contract cites this file.
-- The next bits of a list as a number, and the numbers that are read from it.
use Rattle.std.specs.Prelude.{ℕ, zero, suc, ◌≡◌, ◌+◌, ◌-◌, ◌*◌, ◌/◌, ◌%◌, ◌^◌, ◌<◌, ◌≤◌, Bool, false, Option, MatchOption, List, [], ◌∷◌, ◌++◌, length, take, drop, replicate}
use Rattle.std.specs.List.{flat_map}
use Rattle.aec_params.specs.Codewords.{fs, binary}
use Rattle.aec_bits.specs.BitReader.{AreBelow, StopsBefore}
use Rattle.aec_bits.specs.declared.bit_reader.windows.Window.{Window}

-- the n bits of a list from a place on, n at most 64; a bit past the end of the list counts as zero
unfoldable pub bits_from : ℕ → ℕ → List Bool → List Bool
bits_from place n list = take n (drop place list ++ replicate 64 false)

-- The lowest `left` bits of a word are the `left` bits of a list before the place `end`. A reader
-- takes them from the top; the other bits of the word are already read.
pub record IsWindow (list : List Bool) (word left end : ℕ) : Type 0 where
  pub size : left ≤ 64
  pub order : left ≤ end
  pub within : end - left ≤ length list
  pub same : binary left word ≡ bits_from (end - left) left list

-- a window of a list; the bits of its word above it are zeros
pub record IsClearWindow (list : List Bool) (w : Window) : Type 0 where
  pub window : IsWindow list w.word w.left w.end
  pub fits : w.word < 2 ^ w.left

-- the window of all 64 bits from a place of a list on
pub record IsWholeWindow (list : List Bool) (start : ℕ) (w : Window) : Type 0 where
  pub window : IsWindow list w.word w.left w.end
  pub size : w.left ≡ 64
  pub place : w.end ≡ start + 64

-- the place of a word's topmost 1 bit, counted from the lowest bit
pub record IsTopOne (word place : ℕ) : Type 0 where
  pub least : 2 ^ place ≤ word
  pub most : word < 2 ^ (place + 1)
  pub small : place < 64

-- a codeword of n bits begins a window, and the rest of the window follows it
pub record BeginsWindow (codeword : List Bool) (n : ℕ) (w rest : Window) : Type 0 where
  pub stands : binary w.left w.word ≡ codeword ++ binary rest.left rest.word
  pub left : rest.left + n ≡ w.left
  pub end : rest.end ≡ w.end

-- `count` numbers of w bits each fit one word, and w is at most 32
pub record FitWord (w count : ℕ) : Type 0 where
  pub width : w ≤ 32
  pub there : w * count ≤ 64

-- `bits` begin with the codewords of `numbers`, each below the limit, and `rest` follows these
pub record StandsBefore (codeword : ℕ → List Bool) (limit : ℕ) (numbers : List ℕ) (rest bits : List Bool) : Type 0 where
  pub stands : bits ≡ flat_map codeword numbers ++ rest
  pub below : AreBelow limit numbers

-- From `place` on, a list has the fundamental sequences of `numbers`, and the window of `left` bits
-- begins right after these. No other bit of the word is set.
pub record StandsBehind (list : List Bool) (place : ℕ) (numbers : List ℕ) (word left end : ℕ) : Type 0 where
  pub window : IsWindow list word left end
  pub fits : word < 2 ^ left
  pub read : StandsBefore fs 64 numbers (drop (end - left) list) (drop place list)

-- `bits` begin with the codewords of the new numbers, each below the limit, and `rest` follows
-- these; there are as many new numbers as old ones
pub record FillsNumbers (codeword : ℕ → List Bool) (limit : ℕ) (old new : List ℕ) (rest bits : List Bool) : Type 0 where
  pub stand : StandsBefore codeword limit new rest bits
  pub len : length new ≡ length old

-- If a window is returned, the new numbers are those of the next fundamental sequences after a
-- place of a list, and the window begins right after these. Else fewer sequences follow, and no 1
-- bit is in the 64 bits after them. There are as many numbers as before.
pub record ReadsSequences (list : List Bool) (place : ℕ) (old new : List ℕ) (result : Option Window) : Type 0 where
  pub cases : MatchOption result (StopsBefore (length old) (drop place list))
      (λ next. StandsBehind list place new next.word next.left next.end)
  pub len : length new ≡ length old

-- The lowest `left` bits of a word hold n numbers of w bits each, one after the other from the top
-- bit down. These are the numbers in that order.
abbrev pub numbers_of_word : ℕ → ℕ → ℕ → ℕ → List ℕ
numbers_of_word w zero left word = []
numbers_of_word w (suc n) left word = (word / 2 ^ (left - w) % 2 ^ w) ∷ numbers_of_word w n (left - w) word

-- the top w bits of each number times its power, modulo 2^32, as numbers
abbrev pub moved_to_top : ℕ → List ℕ → List ℕ → List ℕ
moved_to_top w [] powers = []
moved_to_top w (x ∷ xs) [] = []
moved_to_top w (x ∷ xs) (p ∷ ps) = (x * p % 2 ^ 32 / 2 ^ (32 - w)) ∷ moved_to_top w xs ps
