-- How the number of an option is read.
use Rattle.std.proofs.Common.{◌≡◌, ap, ℕ, refl, Option, Some, None}
use Rattle.std.specs.Prelude.{Ok, Err, Result, codes, unwrap_or, option_and_then}
use Rattle.std.specs.Str.Parse.{ParsesUnsigned}
use Rattle.clap.specs.Matches.{ReadsOne, one_text}
use Rattle.clap.specs.Walk.{Text}
use Rattle.clap.specs.declared.parser.matches.Found.{Found}
use Rattle.aec_cli.specs.Jobs.{count_of, word_of}
use Rattle.aec_engine.specs.Numerals.{option_number}
use Rattle.aec_engine.proofs.NumeralLemmas.{option_number-read}

-- the number that `get_one` returns for a text is the number in the text
read_number : {E : Type 0} (gives : Text → Result ℕ E → Type 0) (width : ℕ) → ((t : Text) (x : Result ℕ E) → gives t x → ParsesUnsigned width 10 t x)
    → (text : Text) (r : Option ℕ) → ReadsOne gives text r → r ≡ option_number width text
read_number {E} gives width parses text (Some n) h = option_number-read {E = E} width text (Ok n) (parses text (Ok n) h)
read_number gives width parses text None h = option_number-read width text (Err h.0) (parses text (Err h.0) h.1)

pub word_of-read : {E : Type 0} (gives : Text → Result ℕ E → Type 0) (default : ℕ) (id : Text) (f : Found) (r : Option ℕ)
    → ((t : Text) (x : Result ℕ E) → gives t x → ParsesUnsigned 32 10 t x)
    → (one_text f id ≡ None → r ≡ None) → ((t : Text) → one_text f id ≡ Some t → ReadsOne gives t r)
    → unwrap_or r default ≡ word_of default id f
unfolding word_of
word_of-read gives default id f r parses none some = go (one_text f id) refl
  where
    go : (o : Option Text) → one_text f id ≡ o → unwrap_or r default ≡ unwrap_or (option_and_then (option_number 32) o) default
    go None e = ap (λ x. unwrap_or x default) (none e)
    go (Some t) e = ap (λ x. unwrap_or x default) (read_number gives 32 parses t r (some t e))

pub count_of-read : {E : Type 0} (gives : Text → Result ℕ E → Type 0) (f : Found) (r : Option ℕ)
    → ((t : Text) (x : Result ℕ E) → gives t x → ParsesUnsigned 64 10 t x)
    → (one_text f (codes "count") ≡ None → r ≡ None) → ((t : Text) → one_text f (codes "count") ≡ Some t → ReadsOne gives t r)
    → r ≡ count_of f
unfolding count_of
count_of-read gives f r parses none some = go (one_text f (codes "count")) refl
  where
    go : (o : Option Text) → one_text f (codes "count") ≡ o → r ≡ option_and_then (option_number 64) o
    go None e = none e
    go (Some t) e = read_number gives 64 parses t r (some t e)
