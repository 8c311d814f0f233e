-- The edits that written-out scripts ask for. A wrong line here fails the check.
use Rattle.std.specs.Prelude.{◌≡◌, List, [], ◌∷◌, ◌++◌, ℕ, pos, negsuc, Some, None, codes, refl}
use Rattle.aec_params.specs.declared.edit.Edit.TheVariants.{Overwrite, Append, Truncate, Insert, Remove}
use Rattle.aec_engine.specs.Numerals.{Text}
use Rattle.aec_engine.specs.Scripts.{listing_of}

-- a text and a line feed
abbrev line : List ℕ → Text
line text = text ++ 10 ∷ []

-- a bad line is named by its number among all lines, and the edits before it are listed
bad_third_line : listing_of (line (codes "append 1") ++ (line (codes "") ++ line (codes "truncate x")))
    ≡ record { edits = Append (pos 1 ∷ []) ∷ []; lines = 1 ∷ []; bad = Some 3 }
bad_third_line = refl

-- a line that begins with `#` is skipped; no value, one, or more
four_lines : listing_of (line (codes "# p")
    ++ (line (codes "overwrite 20 1 -2") ++ (line (codes "append") ++ codes "truncate 5")))
    ≡ record {
      edits = Overwrite 20 (pos 1 ∷ negsuc 1 ∷ []) ∷ Append [] ∷ Truncate 5 ∷ [];
      lines = 2 ∷ 3 ∷ 4 ∷ [];
      bad = None;
    }
four_lines = refl

-- values inserted at a place, or none; a number of removed samples
lines_that_move : listing_of (line (codes "insert 3 7 -8")
    ++ (line (codes "insert 0") ++ codes "remove 18446744073709551615 0"))
    ≡ record {
      edits = Insert 3 (pos 7 ∷ negsuc 7 ∷ []) ∷ Insert 0 [] ∷ Remove 18446744073709551615 0 ∷ [];
      lines = 1 ∷ 2 ∷ 3 ∷ [];
      bad = None;
    }
lines_that_move = refl

-- a carriage return and no line feed; leading zeros, and a minus before nothing
return_at_the_end : listing_of (codes "append 007 -0" ++ 13 ∷ [])
    ≡ record { edits = Append (pos 7 ∷ pos 0 ∷ []) ∷ []; lines = 1 ∷ []; bad = None }
return_at_the_end = refl

-- of two carriage returns only the last is no part of the line; the other is part of the last word
two_returns : (listing_of (codes "append 1" ++ (13 ∷ 13 ∷ 10 ∷ []))).bad ≡ Some 1
two_returns = refl

-- lines that are no edits: no place; a word too many; a capital; a plus; a minus alone; a number
-- too large
no_place : (listing_of (codes "overwrite")).bad ≡ Some 1
no_place = refl

word_too_many : (listing_of (codes "truncate 1 2")).bad ≡ Some 1
word_too_many = refl

capital : (listing_of (codes "Append 1")).bad ≡ Some 1
capital = refl

plus : (listing_of (codes "append +1")).bad ≡ Some 1
plus = refl

minus_alone : (listing_of (codes "append -")).bad ≡ Some 1
minus_alone = refl

too_large : (listing_of (codes "append 9223372036854775808")).bad ≡ Some 1
too_large = refl

-- nor are these: no place, no number of samples, one word too many, a number that needs more than
-- 64 bits
no_place_to_insert : (listing_of (codes "insert")).bad ≡ Some 1
no_place_to_insert = refl

no_len : (listing_of (codes "remove 1")).bad ≡ Some 1
no_len = refl

two_lens : (listing_of (codes "remove 1 2 3")).bad ≡ Some 1
two_lens = refl

len_too_large : (listing_of (codes "remove 0 18446744073709551616")).bad ≡ Some 1
len_too_large = refl

-- the least value
least_value : (listing_of (codes "append -9223372036854775808")).edits ≡ Append (negsuc 9223372036854775807 ∷ []) ∷ []
least_value = refl

-- tabs and blanks at either end
blanks : (listing_of (32 ∷ 9 ∷ codes "truncate" ++ (9 ∷ 9 ∷ codes "5 "))).edits ≡ Truncate 5 ∷ []
blanks = refl
