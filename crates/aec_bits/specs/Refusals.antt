-- Why an edit doesn't fit a list of samples.
use Rattle.std.specs.Prelude.{ℕ, ◌+◌, Bool, nat_lt, if◌then◌else◌, Option, Some, None, List, [], ◌∷◌, length, ℤ}
use Rattle.std.specs.Option.{option_map}
use Rattle.aec_params.specs.declared.fault.Fault.{Fault}
use Rattle.aec_params.specs.declared.fault.Fault.TheVariants.{SampleRange, TooManySamples, OutOfRange}
use Rattle.aec_params.specs.declared.edit.Edit.{Edit}
use Rattle.aec_params.specs.declared.edit.Edit.TheVariants.{Overwrite, Append, Truncate, Insert, Remove}
use Rattle.aec_bits.specs.Codec.{Format}

-- the place of the first number that is no sample, counted from i
abbrev pub first_unheld : (ℤ → Bool) → ℕ → List ℤ → Option ℕ
first_unheld holds i [] = None
first_unheld holds i (x ∷ xs) = if holds x then first_unheld holds (i + 1) xs else Some i

-- why values are refused: the first that is no sample
abbrev pub values_refusal : Format → List ℤ → Option Fault
values_refusal f values = option_map (λ i. SampleRange i) (first_unheld f.holds 0 values)

-- why values can't join the samples s: too many for the limit, or one is no sample
abbrev pub growth_refusal : Format → ℕ → List ℤ → List ℤ → Option Fault
growth_refusal f limit s values =
    if nat_lt limit (length s + length values) then Some (TooManySamples limit) else values_refusal f values

-- the first rule that an edit of the samples s breaks under a limit, if there is one
abbrev pub refusal_of : Format → ℕ → List ℤ → Edit → Option Fault
refusal_of f limit s (Overwrite first values) =
    if nat_lt (length s) (first + length values) then Some (OutOfRange (length s)) else values_refusal f values
refusal_of f limit s (Append values) = growth_refusal f limit s values
refusal_of f limit s (Truncate count) = if nat_lt (length s) count then Some (OutOfRange (length s)) else None
refusal_of f limit s (Insert first values) =
    if nat_lt (length s) first then Some (OutOfRange (length s)) else growth_refusal f limit s values
refusal_of f limit s (Remove first len) = if nat_lt (length s) (first + len) then Some (OutOfRange (length s)) else None
