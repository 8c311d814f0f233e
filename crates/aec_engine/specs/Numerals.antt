-- Numbers written in decimal digits.
use Rattle.std.specs.Prelude.{ℕ, ◌^◌, Bool, ◌&&◌, ◌==◌, nat_lt, if◌then◌else◌, ℤ, pos, negsuc, List, [], ◌∷◌, length, Option, Some, None, option_map, option_and_then}
use Rattle.std.specs.List.{list_all, slice_split}
use Rattle.std.specs.Char.{digit_value}
use Rattle.std.specs.Str.Parse.{digits_value, without_leading_plus}

-- the bytes of a word, a line or a whole script
abbrev pub Text : Type 0
Text = List ℕ

-- one decimal digit or more, and nothing else (a test on a list, where the code has the library's
-- `parse`)
abbrev pub is_numeral : Text → Bool
is_numeral text = nat_lt 0 (length text) && list_all (λ byte. nat_lt (digit_value byte) 10) text

-- the whole numbers of 64 bits with their sign
abbrev pub fits_i64 : ℤ → Bool
fits_i64 (pos n) = nat_lt n (2 ^ 63)
fits_i64 (negsuc n) = nat_lt n (2 ^ 63)

-- the whole number below 2^width that a text of decimal digits alone spells, if it is one (COMMAND:
-- Ranges; by the value of a list of digits, with no loop that stops at the first bad one)
abbrev pub decimal_in : ℕ → Text → Option ℕ
decimal_in width text = if is_numeral text && nat_lt (digits_value 10 text) (2 ^ width)
    then Some (digits_value 10 text) else None

-- the same, with or without a plus first, as in the number of an option (COMMAND: Options)
abbrev pub option_number : ℕ → Text → Option ℕ
option_number width text = decimal_in width (without_leading_plus text)

-- two parts that are numbers of 64 bits
abbrev pub numbers_in : List Text → Option (ℕ × ℕ)
numbers_in (first ∷ len ∷ []) = option_and_then (λ i. option_map (λ n. (i, n)) (decimal_in 64 len))
    (decimal_in 64 first)
numbers_in _ = None

-- `FIRST:LEN`: cut at its colons, the text is two numbers (COMMAND: Ranges; cut at every colon,
-- where the code cuts at the first)
abbrev pub range_in : Text → Option (ℕ × ℕ)
range_in text = numbers_in (slice_split (λ byte. byte == 58) text)
