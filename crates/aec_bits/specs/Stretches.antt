-- For proofs alone: no public contract cites this file.
-- Stretches of bits in words, read, overwritten and copied.
use Rattle.std.specs.Prelude.{◌≡◌, ℕ, ◌+◌, ◌*◌, ◌^◌, ◌<◌, ◌≤◌, Bool, List, ◌++◌, length, take, drop}
use Rattle.aec_bits.specs.Words.{bits_of_words}

-- n bits of one word from a place on, at least one
pub record IsPartOfWord (at n : ℕ) : Type 0 where
  pub some : 0 < n
  pub within : at + n ≤ 64

-- a place in a word after its first bit
pub record IsInnerPlace (at : ℕ) : Type 0 where
  pub some : 0 < at
  pub inside : at < 64

-- words are as before, except that a part is written over the n bits from place `at` on
pub record AreOverwritten (at n : ℕ) (part : List Bool) (old new : List ℕ) : Type 0 where
  pub bits : bits_of_words new ≡ take at (bits_of_words old) ++ (part ++ drop (at + n) (bits_of_words old))
  pub len : length new ≡ length old

-- words are as before, except that the n bits from place `at` on are those of `source` from place
-- `from` on
abbrev pub HaveCopied : (from at n : ℕ) (source old new : List ℕ) → Type 0
HaveCopied from at n source old new = AreOverwritten at n (take n (drop from (bits_of_words source))) old new

-- `source` has the n bits from place `from` on, and the words have the n bits from place `at` on;
-- both stretches end at place 2^63 or before it
pub record CanCopy (from at n : ℕ) (source words : List ℕ) : Type 0 where
  pub there : from + n ≤ 64 * length source
  pub within : at + n ≤ 64 * length words
  pub bound_there : from + n ≤ 2 ^ 63
  pub bound : at + n ≤ 2 ^ 63
