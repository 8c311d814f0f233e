-- Scripts: the edits that the lines of a text ask for, and the first line that is none.
use Rattle.std.specs.Prelude.{ℕ, ◌+◌, Bool, true, false, ◌||◌, ◌&&◌, ◌==◌, if◌then◌else◌, Option, Some, None, option_map, option_and_then, ℤ, List, [], ◌∷◌, filter, codes, slice_index}
use Rattle.std.specs.List.{slice_split}
use Rattle.std.specs.Str.{bytes_eq}
use Rattle.std.specs.Str.Lines.{strip_carriage_return}
use Rattle.std.specs.Str.Parse.{signed_digits_value, without_leading_sign}
use Rattle.aec_params.specs.declared.edit.Edit.{Edit}
use Rattle.aec_params.specs.declared.edit.Edit.TheVariants.{Overwrite, Append, Truncate, Insert, Remove}
use Rattle.aec_engine.specs.Numerals.{Text, is_numeral, fits_i64, decimal_in}

-- ---- words and values

-- spaces and tabs
abbrev pub is_blank : ℕ → Bool
is_blank byte = byte == 32 || byte == 9

-- what lies between two blanks is a word, if it isn't empty
abbrev pub is_word : Text → Bool
is_word [] = false
is_word (byte ∷ bytes) = true

-- the words of a line, separated by blanks (COMMAND: Scripts; the whole line cut at each blank,
-- without empty parts, where the code goes from word to word)
abbrev pub words_of : Text → List Text
words_of line = filter is_word (slice_split is_blank line)

-- the whole number of 64 bits that decimal digits after a sign or nothing spell (COMMAND: Scripts;
-- by the value of a list of digits)
abbrev pub signed_in : Text → Option ℤ
signed_in word =
    if is_numeral (without_leading_sign word) && fits_i64 (signed_digits_value 10 word)
    then Some (signed_digits_value 10 word) else None

-- a value has a minus or nothing before its digits (COMMAND: Scripts)
abbrev pub value_in : Text → Option ℤ
value_in word = if slice_index word 0 == 43 then None else signed_in word

-- the values of words, if each word is a value
abbrev pub values_in : List Text → Option (List ℤ)
values_in [] = Some []
values_in (word ∷ words) = option_and_then (λ x. option_map (λ xs. x ∷ xs) (values_in words)) (value_in word)

-- ---- lines

-- what a line says: nothing, an edit, or neither (COMMAND: Scripts)
pub data Meaning : Type 0 where
  nothing : Meaning
  change : Edit → Meaning
  unknown : Meaning

-- an edit, if there is one
abbrev pub change_if : Option Edit → Meaning
change_if (Some e) = change e
change_if None = unknown

-- `FIRST V..` (COMMAND: Edits)
abbrev pub overwrite_in : List Text → Option Edit
overwrite_in [] = None
overwrite_in (first ∷ values) = option_and_then (λ i. option_map (λ xs. Overwrite i xs) (values_in values))
    (decimal_in 64 first)

-- `V..` (COMMAND: Edits)
abbrev pub append_in : List Text → Option Edit
append_in values = option_map (λ xs. Append xs) (values_in values)

-- `COUNT` (COMMAND: Edits)
abbrev pub truncate_in : List Text → Option Edit
truncate_in (count ∷ []) = option_map (λ n. Truncate n) (decimal_in 64 count)
truncate_in _ = None

-- `FIRST V..` (COMMAND: Edits)
abbrev pub insert_in : List Text → Option Edit
insert_in [] = None
insert_in (first ∷ values) = option_and_then (λ i. option_map (λ xs. Insert i xs) (values_in values))
    (decimal_in 64 first)

-- `FIRST LEN` (COMMAND: Edits)
abbrev pub remove_in : List Text → Option Edit
remove_in (first ∷ len ∷ []) = option_and_then (λ i. option_map (λ n. Remove i n) (decimal_in 64 len))
    (decimal_in 64 first)
remove_in _ = None

-- the first word names the edit; a line whose first word begins with `#` says nothing (COMMAND:
-- Scripts; on the list of all words, where the code judges a line before it keeps its values)
abbrev pub meaning_of_words : List Text → Meaning
meaning_of_words [] = nothing
meaning_of_words (name ∷ words) =
    if slice_index name 0 == 35 then nothing
    else (if bytes_eq name (codes "overwrite") then change_if (overwrite_in words)
    else (if bytes_eq name (codes "append") then change_if (append_in words)
    else (if bytes_eq name (codes "truncate") then change_if (truncate_in words)
    else (if bytes_eq name (codes "insert") then change_if (insert_in words)
    else (if bytes_eq name (codes "remove") then change_if (remove_in words) else unknown)))))

-- one carriage return at the end of a line is no part of it (COMMAND: Scripts)
abbrev pub meaning_of : Text → Meaning
meaning_of line = meaning_of_words (words_of (strip_carriage_return line))

-- ---- whole scripts

-- the edits before the first line that isn't one, the numbers of their lines, and the number of
-- that line (COMMAND: Scripts)
pub record Listing : Type 0 where
  pub edits : List Edit
  pub lines : List ℕ
  pub bad : Option ℕ

-- a listing, with the meaning of the line n before it
abbrev pub listed : ℕ → Meaning → Listing → Listing
listed n nothing rest = rest
listed n (change e) rest = record { edits = e ∷ rest.edits; lines = n ∷ rest.lines; bad = rest.bad }
listed n unknown rest = record { edits = []; lines = []; bad = Some n }

-- the listing of lines that are counted from n on
abbrev pub listing_from : ℕ → List Text → Listing
listing_from n [] = record { edits = []; lines = []; bad = None }
listing_from n (line ∷ lines) = listed n (meaning_of line) (listing_from (n + 1) lines)

-- lines end with line feeds, and are counted from 1 (COMMAND: Scripts; the whole script cut at its
-- line feeds)
abbrev pub listing_of : Text → Listing
listing_of bytes = listing_from 1 (slice_split (λ byte. byte == 10) bytes)
