-- For proofs alone: no public contract cites this file.
-- Where the fundamental sequences of a word end, and the numbers of zeros between these ends. An
-- end is the place after a 1 bit: there a fundamental sequence ends.
use Rattle.std.specs.Prelude.{ℕ, suc, ◌≡◌, ◌+◌, ◌-◌, ◌%◌, ◌^◌, Bool, true, false, List, [], ◌∷◌, ◌++◌, length, take, get_or, replicate}
use Rattle.aec_params.specs.Codewords.{binary}
use Rattle.aec_bits.specs.WordBits.{word_bits}

-- the places after the 1 bits of a list that begins at place `at`
abbrev pub ends_of_ones : ℕ → List Bool → List ℕ
ends_of_ones at [] = []
ends_of_ones at (true ∷ bits) = suc at ∷ ends_of_ones (suc at) bits
ends_of_ones at (false ∷ bits) = ends_of_ones (suc at) bits

-- the ends in a byte, then zeros: eight numbers
abbrev pub ends_in_byte : ℕ → List ℕ
ends_in_byte byte = take 8 (ends_of_ones 0 (binary 8 byte) ++ replicate 8 0)

-- the ends in a word
abbrev pub ends_in_word : ℕ → List ℕ
ends_in_word word = ends_of_ones 0 (word_bits word)

-- the first `count` numbers of a list are the ends among the first n bits of a word, all of them.
pub record HasEnds (word n count : ℕ) (numbers : List ℕ) : Type 0 where
  pub ends : take count numbers ≡ ends_of_ones 0 (take n (word_bits word))
  pub size : count ≡ length (ends_of_ones 0 (take n (word_bits word)))

-- each number less the one before it, and less 1, modulo 2^8, as lanes subtract; `before` is before
-- the first. `sequences_end` says that these are the numbers of the fundamental sequences
abbrev pub gaps_after : ℕ → List ℕ → List ℕ
gaps_after before [] = []
gaps_after before (e ∷ ends) = ((e + (2 ^ 8 - before)) % 2 ^ 8 + (2 ^ 8 - 1)) % 2 ^ 8 ∷ gaps_after e ends

-- for each of the first n ones of a word, the number of zeros between the one before it and it; and
-- the place after the n-th
pub record ReadsGaps (word n : ℕ) (numbers : List ℕ) (gone : ℕ) : Type 0 where
  pub gaps : numbers ≡ gaps_after 0 (take n (ends_in_word word))
  pub end : gone ≡ get_or (ends_in_word word) (n - 1) 0
