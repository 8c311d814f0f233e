-- For proofs alone: no public contract cites this file.
-- What the private functions that read scripts return: a line before its values are kept.
use Rattle.std.specs.Prelude.{◌≡◌, ℕ, ℤ, Bool, true, Option, Some, None, is_some, option_map, length, ◌+◌, ◌<◌, ◌⊎◌, ◌≢◌, List, [], ◌++◌, ◌==◌}
use Rattle.std.specs.List.{slice_split}
use Rattle.aec_params.specs.declared.edit.Edit.{Edit}
use Rattle.aec_params.specs.declared.edit.Edit.TheVariants as edit
use Rattle.aec_params.specs.declared.fault.Fault.{Fault}
use Rattle.aec_params.specs.declared.fault.Fault.TheVariants.{Memory, Script}
use Rattle.aec_engine.specs.Numerals.{Text}
use Rattle.aec_engine.specs.declared.script_lines.Line.{Line}
use Rattle.aec_engine.specs.declared.script_lines.Line.TheVariants as line
use Rattle.aec_engine.specs.Scripts.{Meaning, nothing, change, unknown, change_if, words_of, values_in, Listing}

-- whether each word of a text is a value
abbrev pub are_values : Text → Bool
are_values text = is_some (values_in (words_of text))

-- what a judged line says
abbrev pub said : Line → Meaning
said line.Nothing = nothing
said (line.Overwrite first values) = change_if
    (option_map (λ xs. edit.Overwrite first xs) (values_in (words_of values.now)))
said (line.Append values) = change_if (option_map (λ xs. edit.Append xs) (values_in (words_of values.now)))
said (line.Truncate count) = change (edit.Truncate count)
said (line.Insert first values) = change_if (option_map (λ xs. edit.Insert first xs) (values_in (words_of values.now)))
said (line.Remove first len) = change (edit.Remove first len)
said line.Unknown = unknown

-- the values of a judged line are values
abbrev pub IsJudged : Line → Type 0
IsJudged (line.Overwrite first values) = are_values values.now ≡ true
IsJudged (line.Append values) = are_values values.now ≡ true
IsJudged (line.Insert first values) = are_values values.now ≡ true
IsJudged _ = Unit {0}

-- a line that is kept: an edit, or nothing
abbrev pub kept : Option Edit → Meaning
kept (Some e) = change e
kept None = nothing

-- the lines of a text
abbrev pub lines_of : Text → List Text
lines_of text = slice_split (λ byte. byte == 10) text

-- the lines of what is left of a text: none if nothing is left
abbrev pub lines_left : Option Text → List Text
lines_left (Some text) = lines_of text
lines_left None = []

-- how many bytes are left, plus one for the end of the last line
abbrev pub text_left : Option Text → ℕ
text_left (Some text) = length text + 1
text_left None = 0

-- a listing after edits on lines before it
abbrev pub after_listed : List Edit → List ℕ → Listing → Listing
after_listed edits lines rest = record { edits = edits ++ rest.edits; lines = lines ++ rest.lines; bad = rest.bad }

-- why the line n is not taken: it is no edit, or there is no memory for its edit
abbrev pub RefusesLine : Meaning → ℕ → Fault → Type 0
RefusesLine m n e = ((m ≡ unknown) × (e ≡ Script n)) ⊎ ((e ≡ Memory) × ((m ≢ nothing) × (m ≢ unknown)))

-- the same, in terms of the listing of the whole script
abbrev pub RefusesListing : Listing → ℕ → Fault → Type 0
RefusesListing read n e = ((read.bad ≡ Some n) × (e ≡ Script n)) ⊎ ((e ≡ Memory) × (0 < length read.edits))

-- values, after others that were read
abbrev pub after_values : List ℤ → Option (List ℤ) → Option (List ℤ)
after_values items rest = option_map (λ xs. items ++ xs) rest
