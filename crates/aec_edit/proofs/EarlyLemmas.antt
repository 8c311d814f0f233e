-- An overwrite inside samples does the same if more samples come after them.
use Rattle.std.proofs.Common.{◌≡◌, ℕ, nat_lt, ◌+◌, ◌≤◌, Some, cond, List, ◌++◌, length, take, drop, ℤ, sym, ap, ap₂, refl, ◌∙◌, arith, append_assoc}
use Rattle.std.proofs.lemmas.Bool.{le-ltb, cond-false}
use Rattle.std.proofs.lemmas.List.{length-append, length-take, length-drop, take-append-le, drop-append-le}
use Rattle.aec_params.specs.declared.fault.Fault.TheVariants.{OutOfRange}
use Rattle.aec_params.specs.declared.edit.Edit.{Edit}
use Rattle.aec_params.specs.declared.edit.Edit.TheVariants.{Overwrite, Append, Truncate, Insert, Remove}
use Rattle.aec_params.specs.Edits.{samples_after, needed_calls}
use Rattle.aec_bits.specs.Codec.{Format}
use Rattle.aec_bits.specs.Refusals.{refusal_of, values_refusal}
use Rattle.aec_edit.specs.Early.{IsInside}

pub samples_after-inside : (s t : List ℤ) (e : Edit) → IsInside (length s) e → samples_after (s ++ t) e ≡ samples_after s e ++ t
samples_after-inside s t (Overwrite first values) inside =
    ap₂ (λ a b. a ++ (values ++ b)) (take-append-le first s t (omega arith)) (drop-append-le (first + length values) s t inside)
    ∙ ap (λ x. take first s ++ x) (sym (append_assoc values (drop (first + length values) s) t))
    ∙ sym (append_assoc (take first s) (values ++ drop (first + length values) s) t)
samples_after-inside s t (Append values) inside = absurd inside
samples_after-inside s t (Truncate count) inside = absurd inside
samples_after-inside s t (Insert first values) inside = absurd inside
samples_after-inside s t (Remove first len) inside = absurd inside

pub length-inside : (s : List ℤ) (e : Edit) → IsInside (length s) e → length (samples_after s e) ≡ length s
length-inside s (Overwrite first values) inside =
    omega (
      arith,
      length-append (take first s) (values ++ drop (first + length values) s),
      length-append values (drop (first + length values) s),
      length-take first s,
      length-drop (first + length values) s,
    )
length-inside s (Append values) inside = absurd inside
length-inside s (Truncate count) inside = absurd inside
length-inside s (Insert first values) inside = absurd inside
length-inside s (Remove first len) inside = absurd inside

pub needed_calls-inside : (n old new : ℕ) (e : Edit) → IsInside old e → needed_calls n new e ≡ needed_calls n old e
needed_calls-inside n old new (Overwrite first values) inside = refl
needed_calls-inside n old new (Append values) inside = absurd inside
needed_calls-inside n old new (Truncate count) inside = absurd inside
needed_calls-inside n old new (Insert first values) inside = absurd inside
needed_calls-inside n old new (Remove first len) inside = absurd inside

pub refusal_of-inside : (f : Format) (limit : ℕ) (s t : List ℤ) (e : Edit) → IsInside (length s) e
    → refusal_of f limit (s ++ t) e ≡ refusal_of f limit s e
refusal_of-inside f limit s t (Overwrite first values) inside =
    within (length (s ++ t)) (omega (arith, length-append s t)) ∙ sym (within (length s) inside)
  where
    within : (count : ℕ) → first + length values ≤ count
        → cond (nat_lt count (first + length values)) (Some (OutOfRange count)) (values_refusal f values) ≡ values_refusal f values
    within count below = cond-false (nat_lt count (first + length values)) (Some (OutOfRange count)) (values_refusal f values)
        (le-ltb count (first + length values) below)
refusal_of-inside f limit s t (Append values) inside = absurd inside
refusal_of-inside f limit s t (Truncate count) inside = absurd inside
refusal_of-inside f limit s t (Insert first values) inside = absurd inside
refusal_of-inside f limit s t (Remove first len) inside = absurd inside
