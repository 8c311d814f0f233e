-- What is claimed of codes and refusals, each the contract of a function of laws.rt.
use Rattle.std.specs.Prelude.{◌≡◌, ℕ, ◌+◌, ◌*◌, ◌<◌, ◌≤◌, Bool, false, Some, None, List, ◌++◌, length, take, drop, ℤ, pos, slice_index_or}
use Rattle.aec_params.specs.declared.fault.Fault.TheVariants.{SampleRange, TooManySamples, OutOfRange}
use Rattle.aec_params.specs.declared.edit.Edit.TheVariants.{Overwrite, Append, Truncate, Insert, Remove}
use Rattle.aec_bits.specs.Codec.{Format, AreHeld, IsLawful, code_of}
use Rattle.aec_bits.specs.Refusals.{refusal_of}

-- if samples are cut at the end of an interval, their code is the codes of both parts, one after
-- the other
abbrev pub CutsAtIntervals : Type 0
CutsAtIntervals = (f : Format) (k : ℕ) (a b : List ℤ) → 1 ≤ f.most → length a ≡ k * f.most
    → code_of f (a ++ b) ≡ code_of f a ++ code_of f b

-- the code of one interval is its own bits
abbrev pub CodesIntervals : Type 0
CodesIntervals = (f : Format) (s : List ℤ) → 1 ≤ length s → length s ≤ f.most → code_of f s ≡ f.bits_of s

-- the bits of interval k come after the code of the samples before it, and before the code of those
-- after it
abbrev pub StandsBetween : Type 0
StandsBetween = (f : Format) (k : ℕ) (s : List ℤ) → 1 ≤ f.most → k * f.most < length s
    → code_of f s ≡ code_of f (take (k * f.most) s)
    ++ (f.bits_of (take f.most (drop (k * f.most) s)) ++ code_of f (drop ((k + 1) * f.most) s))

-- with a lawful codec, a code and a number of samples determine the samples, whatever bits follow
abbrev pub HasOneList : Type 0
HasOneList = (f : Format) (a b : List ℤ) (x y : List Bool) → IsLawful f → AreHeld f a → AreHeld f b
    → length a ≡ length b
    → code_of f a ++ x ≡ code_of f b ++ y → (a ≡ b) × (x ≡ y)

-- a place past the samples is refused, whatever the values are
abbrev pub JudgesPlacesFirst : Type 0
JudgesPlacesFirst = (f : Format) (limit first len : ℕ) (s values : List ℤ)
    → (length s < first + length values → refusal_of f limit s (Overwrite first values) ≡ Some (OutOfRange (length s)))
    × (length s < first → refusal_of f limit s (Truncate first) ≡ Some (OutOfRange (length s)))
    × (length s < first → refusal_of f limit s (Insert first values) ≡ Some (OutOfRange (length s)))
    × (length s < first + len → refusal_of f limit s (Remove first len) ≡ Some (OutOfRange (length s)))

-- an append past the limit is refused for the limit, whatever the values are; so is an insertion at
-- a place up to the end of the samples
abbrev pub JudgesTheLimitFirst : Type 0
JudgesTheLimitFirst = (f : Format) (limit first : ℕ) (s values : List ℤ) → limit < length s + length values
    → (refusal_of f limit s (Append values) ≡ Some (TooManySamples limit))
    × (first ≤ length s → refusal_of f limit s (Insert first values) ≡ Some (TooManySamples limit))

-- an overwrite within the samples, an append within the limit and an insertion within both are
-- refused for the first value that is no sample, and for no other
abbrev pub NamesTheFirstValue : Type 0
NamesTheFirstValue = (f : Format) (limit first : ℕ) (s values : List ℤ) (i : ℕ) → i < length values
    → AreHeld f (take i values)
    → f.holds (slice_index_or values i (pos 0)) ≡ false
    → (first + length values ≤ length s → refusal_of f limit s (Overwrite first values) ≡ Some (SampleRange i))
    × (length s + length values ≤ limit → refusal_of f limit s (Append values) ≡ Some (SampleRange i))
    × (first ≤ length s → length s + length values ≤ limit
    → refusal_of f limit s (Insert first values) ≡ Some (SampleRange i))

-- an edit whose values are samples, within the limit and the samples present, is not refused
abbrev pub AllowsWhatFits : Type 0
AllowsWhatFits = (f : Format) (limit first len : ℕ) (s values : List ℤ) → AreHeld f values
    → (first + length values ≤ length s → refusal_of f limit s (Overwrite first values) ≡ None)
    × (length s + length values ≤ limit → refusal_of f limit s (Append values) ≡ None)
    × (first ≤ length s → refusal_of f limit s (Truncate first) ≡ None)
    × (first ≤ length s → length s + length values ≤ limit → refusal_of f limit s (Insert first values) ≡ None)
    × (first + len ≤ length s → refusal_of f limit s (Remove first len) ≡ None)
