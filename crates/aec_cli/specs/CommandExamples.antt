-- How the command parses words that are written out. A wrong line here fails the check.
use Rattle.std.specs.Prelude.{◌≡◌, List, [], ◌∷◌, Some, None, codes, refl}
use Rattle.clap.proofs.OnLiterals.{clap_on_literals}
use Rattle.clap.specs.Faults.{fault_of}
use Rattle.clap.specs.Simple.{matches_of}
use Rattle.clap.specs.Walk.{Text, first_of, one_of}
use Rattle.clap.specs.declared.error.kind.ErrorKind.TheVariants.{ArgumentConflict, DisplayVersion, MissingRequiredArgument, TooManyValues, ValueValidation}
use Rattle.aec_cli.specs.Commands.{aec_app, coding_rules, file_rules, number_rules, storage_rules, work_rules}

-- `aec -d -n 20 -3 in out`
abbrev decoding : List Text
decoding = codes "aec" ∷ codes "-d" ∷ codes "-n" ∷ codes "20" ∷ codes "-3" ∷ codes "in" ∷ codes "out" ∷ []

-- `-n 20` is the number of bits
bits_given : one_of (codes "bits") (matches_of aec_app decoding) ≡ Some (codes "20")
unfolding aec_app number_rules coding_rules storage_rules work_rules file_rules clap_on_literals
bits_given = refl

-- no `-r`: no interval
bits_left_out : one_of (codes "interval") (matches_of aec_app decoding) ≡ None
unfolding aec_app number_rules coding_rules storage_rules work_rules file_rules clap_on_literals
bits_left_out = refl

-- `-3` sets its flag
flag_given : first_of (codes "three-byte") (matches_of aec_app decoding) ≡ Some (codes "true")
unfolding aec_app number_rules coding_rules storage_rules work_rules file_rules clap_on_literals
flag_given = refl

-- no `-s`: the flag is not set
flag_left_out : first_of (codes "signed") (matches_of aec_app decoding) ≡ Some (codes "false")
unfolding aec_app number_rules coding_rules storage_rules work_rules file_rules clap_on_literals
flag_left_out = refl

-- the first file is SOURCE
source_given : first_of (codes "SOURCE") (matches_of aec_app decoding) ≡ Some (codes "in")
unfolding aec_app number_rules coding_rules storage_rules work_rules file_rules clap_on_literals
source_given = refl

-- the second is DEST
dest_given : first_of (codes "DEST") (matches_of aec_app decoding) ≡ Some (codes "out")
unfolding aec_app number_rules coding_rules storage_rules work_rules file_rules clap_on_literals
dest_given = refl

-- these words have no mistake
no_fault : fault_of aec_app decoding ≡ []
unfolding aec_app number_rules coding_rules storage_rules work_rules file_rules clap_on_literals
no_fault = refl

-- `aec a`: DEST is missing
dest_missing : fault_of aec_app (codes "aec" ∷ codes "a" ∷ []) ≡ MissingRequiredArgument ∷ []
unfolding aec_app number_rules coding_rules storage_rules work_rules file_rules clap_on_literals
dest_missing = refl

-- an option that is given twice
repeated : fault_of aec_app (codes "aec" ∷ codes "-s" ∷ codes "-s" ∷ codes "a" ∷ codes "b" ∷ []) ≡ ArgumentConflict ∷ []
unfolding aec_app number_rules coding_rules storage_rules work_rules file_rules clap_on_literals
repeated = refl

-- a number that doesn't fit 32 bits
too_large : fault_of aec_app (codes "aec" ∷ codes "-r" ∷ codes "4294967296" ∷ codes "a" ∷ codes "b" ∷ [])
    ≡ ValueValidation ∷ []
unfolding aec_app number_rules coding_rules storage_rules work_rules file_rules clap_on_literals
too_large = refl

-- `aec --range 2:3 --count=5 in out`
abbrev ranging : List Text
ranging = codes "aec" ∷ codes "--range" ∷ codes "2:3" ∷ codes "--count=5" ∷ codes "in" ∷ codes "out" ∷ []

-- `--range 2:3` is the text of the range
range_given : first_of (codes "range") (matches_of aec_app ranging) ≡ Some (codes "2:3")
unfolding aec_app number_rules coding_rules storage_rules work_rules file_rules clap_on_literals
range_given = refl

-- `--count=5` is the count
count_given : one_of (codes "count") (matches_of aec_app ranging) ≡ Some (codes "5")
unfolding aec_app number_rules coding_rules storage_rules work_rules file_rules clap_on_literals
count_given = refl

-- no `--range`: no text
range_left_out : first_of (codes "range") (matches_of aec_app decoding) ≡ None
unfolding aec_app number_rules coding_rules storage_rules work_rules file_rules clap_on_literals
range_left_out = refl

-- a count that doesn't fit 64 bits
count_too_large : fault_of aec_app (codes "aec"
    ∷ codes "--count" ∷ codes "18446744073709551616" ∷ codes "a" ∷ codes "b" ∷ []) ≡ ValueValidation ∷ []
unfolding aec_app number_rules coding_rules storage_rules work_rules file_rules clap_on_literals
count_too_large = refl

-- `aec --version`: nothing else is asked for
version_asked : fault_of aec_app (codes "aec" ∷ codes "--version" ∷ []) ≡ DisplayVersion ∷ []
unfolding aec_app number_rules coding_rules storage_rules work_rules file_rules clap_on_literals
version_asked = refl

-- `aec --even-blocks -j 10 -r 1 -d in out`
abbrev even_decoding : List Text
even_decoding =
    codes "aec" ∷ codes "--even-blocks" ∷ codes "-j" ∷ codes "10" ∷ codes "-r" ∷ codes "1" ∷ codes "-d"
    ∷ codes "in" ∷ codes "out" ∷ []

-- `--even-blocks` sets its flag
even_blocks_given : first_of (codes "even-blocks") (matches_of aec_app even_decoding) ≡ Some (codes "true")
unfolding aec_app number_rules coding_rules storage_rules work_rules file_rules clap_on_literals
even_blocks_given = refl

-- without it the flag is not set
even_blocks_left_out : first_of (codes "even-blocks") (matches_of aec_app decoding) ≡ Some (codes "false")
unfolding aec_app number_rules coding_rules storage_rules work_rules file_rules clap_on_literals
even_blocks_left_out = refl

-- `--even-blocks=1`: a flag takes no value
even_blocks_take_no_value : fault_of aec_app
    (codes "aec" ∷ codes "--even-blocks=1" ∷ codes "a" ∷ codes "b" ∷ []) ≡ TooManyValues ∷ []
unfolding aec_app number_rules coding_rules storage_rules work_rules file_rules clap_on_literals
even_blocks_take_no_value = refl
