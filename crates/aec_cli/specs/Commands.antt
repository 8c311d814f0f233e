-- The command `aec` as a parse sees it: its options and operands, one after the other.
use Rattle.std.specs.Prelude.{ℕ, List, [], ◌∷◌, Some, pos, true, codes, slice_index}
use Rattle.clap.specs.Simple.{App, new_app, new_rule, on_top, with_rule}
use Rattle.clap.specs.Walk.{Rule, Text}
use Rattle.clap.specs.declared.builder.action.ArgAction.TheVariants.{SetTrue}
use Rattle.clap.specs.declared.builder.value_parser.ValueParser.{ValueParser}
use Rattle.clap.specs.declared.builder.value_parser.ValueParser.TheVariants as parser

-- the one byte of a text
abbrev pub letter : Text → ℕ
letter text = slice_index text 0

-- an option of one letter that takes no value
abbrev pub flag_rule : Text → ℕ → Rule
flag_rule id key = record (new_rule id) { short = Some key; action = Some SetTrue }

-- an option with a long name that takes no value
abbrev pub long_flag_rule : Text → Rule
long_flag_rule id = record (new_rule id) { long = Some id; action = Some SetTrue }

-- an option of one letter that takes one value, which the parser judges
abbrev pub number_rule : ValueParser → Text → ℕ → Rule
number_rule judge id key = record (new_rule id) {
  short = Some key;
  value_names = 1;
  parser = Some judge;
}

-- whole numbers of 32 bits
abbrev pub word_parser : ValueParser
word_parser = parser.Signed (pos 0) (pos 4294967295)

-- whole numbers of 64 bits
abbrev pub long_parser : ValueParser
long_parser = parser.Unsigned 0 18446744073709551615

-- an option with a long name that takes one value, which the parser judges
abbrev pub long_number_rule : ValueParser → Text → Rule
long_number_rule judge id = record (new_rule id) {
  long = Some id;
  value_names = 1;
  parser = Some judge;
}

-- an option with a long name that takes one text
abbrev pub long_text_rule : Text → Rule
long_text_rule id = record (new_rule id) { long = Some id; value_names = 1 }

-- the name of a file, which must be given
abbrev pub file_rule : Text → Rule
file_rule id = record (new_rule id) { required = true }

-- a command with more rules, in order
abbrev pub with_rules : App → List Rule → App
with_rules a [] = a
with_rules a (r ∷ rs) = with_rules (with_rule a r) rs

-- the numbers of the format
unfoldable pub number_rules : List Rule
number_rules = number_rule word_parser (codes "bits") (letter (codes "n"))
    ∷ number_rule word_parser (codes "block-size") (letter (codes "j"))
    ∷ number_rule word_parser (codes "interval") (letter (codes "r")) ∷ []

-- how samples are coded
unfoldable pub coding_rules : List Rule
coding_rules = flag_rule (codes "no-preprocessing") (letter (codes "N")) ∷ long_flag_rule (codes "even-blocks")
    ∷ flag_rule (codes "pad") (letter (codes "p")) ∷ flag_rule (codes "restricted") (letter (codes "t")) ∷ []

-- how samples are stored
unfoldable pub storage_rules : List Rule
storage_rules = flag_rule (codes "signed") (letter (codes "s")) ∷ flag_rule (codes "msb-first") (letter (codes "m"))
    ∷ flag_rule (codes "three-byte") (letter (codes "3")) ∷ []

-- what is done
unfoldable pub work_rules : List Rule
work_rules = flag_rule (codes "decode") (letter (codes "d")) ∷ long_text_rule (codes "range")
    ∷ long_text_rule (codes "edit") ∷ long_number_rule long_parser (codes "count") ∷ number_rule long_parser
    (codes "buffer") (letter (codes "b")) ∷ []

-- the two files, in this order
unfoldable pub file_rules : List Rule
file_rules = file_rule (codes "SOURCE") ∷ file_rule (codes "DEST") ∷ []

-- a command of this name that prints its version if asked
abbrev pub versioned_app : Text → App
versioned_app name = on_top (λ shape. record shape { has_version = true }) (new_app name)

-- the command: its rules are those of the argument parser's own definitions (COMMAND: Options; the
-- code calls its builder)
unfoldable pub aec_app : App
aec_app = with_rules (with_rules (with_rules
    (with_rules (with_rules (versioned_app (codes "aec")) number_rules) coding_rules)
    storage_rules) work_rules) file_rules
