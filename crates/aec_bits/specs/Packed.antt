-- Words that keep a list of bits.
use Rattle.std.specs.Prelude.{ℕ, ◌≡◌, ◌+◌, ◌-◌, ◌*◌, ◌^◌, ◌≤◌, Bool, false, List, Vec, ◌++◌, length, take, drop, replicate, vec_capacity}
use Rattle.std.specs.Int.{div_ceil}
use Rattle.aec_bits.specs.Words.{bits_of_words}

-- whether there are exactly the words that `len` bits need, with zeros after the first `len` bits
abbrev pub ArePacked : List ℕ → ℕ → Type 0
ArePacked words len =
    (length words ≡ div_ceil len 64) × (drop len (bits_of_words words) ≡ replicate (64 * length words - len) false)

-- whether the first `len` bits of words are a list, and the words are no more than it needs, with
-- zeros past its end
abbrev pub Keep : List ℕ → ℕ → List Bool → Type 0
Keep words len list = (take len (bits_of_words words) ≡ list) × ArePacked words len

-- there is room for `total` bits in all, at most 2^62
pub record HasRoomFor {Z : Type 0} (total : ℕ) (words : Vec ℕ Z) : Type 0 where
  pub bound : total ≤ 2 ^ 62
  pub room : total ≤ 64 * vec_capacity words

-- words keep a list of `len` bits, and there is room for `more` more bits
pub record CanGrow {Z : Type 0} (len more : ℕ) (words : Vec ℕ Z) : Type 0 where
  pub bound : len + more ≤ 2 ^ 62
  pub room : len + more ≤ 64 * vec_capacity words
  pub packed : ArePacked words.items len

-- words that kept `len` bits keep them and the `more` bits of a part after them, and their capacity
-- does not shrink
pub record Extends {Z : Type 0} (len more : ℕ) (part : List Bool) (old new : Vec ℕ Z) : Type 0 where
  pub list : Keep new.items (len + more) (take len (bits_of_words old.items) ++ part)
  pub capacity : vec_capacity old ≤ vec_capacity new
