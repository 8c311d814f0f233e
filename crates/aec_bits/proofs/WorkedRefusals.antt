-- Refusals of edits of lists of zeros, with a limit of 65 samples, computed from the definitions.
use Rattle.std.proofs.Common.{◌≡◌, ℕ, pos, Option, Some, None, [], ◌∷◌, replicate, map, refl}
use Rattle.aec_params.specs.declared.fault.Fault.{Fault}
use Rattle.aec_params.specs.declared.fault.Fault.TheVariants.{SampleRange, TooManySamples, OutOfRange}
use Rattle.aec_params.specs.declared.edit.Edit.{Edit}
use Rattle.aec_params.specs.declared.edit.Edit.TheVariants.{Insert, Remove}
use Rattle.aec_bits.specs.Refusals.{refusal_of}
use Rattle.aec_bits.specs.Octets.{octets}

-- why an edit of `count` zeros is refused, if it is
abbrev refusal : ℕ → Edit → Option Fault
refusal count edit = refusal_of octets 65 (map pos (replicate count 0)) edit

pub no_room : refusal 65 (Insert 0 (pos 0 ∷ [])) ∷ refusal 65 (Insert 65 (pos 256 ∷ [])) ∷ [] ≡ Some (TooManySamples 65) ∷ Some (TooManySamples 65) ∷ []
no_room = refl

pub past_the_end : refusal 47 (Remove 40 8) ∷ refusal 47 (Insert 48 []) ∷ refusal 65 (Insert 66 (pos 256 ∷ [])) ∷ []
    ≡ Some (OutOfRange 47) ∷ Some (OutOfRange 47) ∷ Some (OutOfRange 65) ∷ []
past_the_end = refl

pub no_sample : refusal 47 (Insert 0 (pos 256 ∷ [])) ≡ Some (SampleRange 0)
no_sample = refl

pub none_at_the_end : refusal 47 (Insert 47 []) ∷ refusal 47 (Remove 47 0) ∷ refusal 47 (Remove 39 8) ∷ [] ≡ None ∷ None ∷ None ∷ []
none_at_the_end = refl
