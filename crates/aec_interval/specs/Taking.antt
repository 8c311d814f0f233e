-- Stored samples as they are taken one after the other: each is judged by the limit, and then by
-- its range. The first that is refused ends it.
use Rattle.std.specs.Prelude.{ℕ, ◌+◌, nat_lt, if◌then◌else◌, Option, Some, None, Result, Ok, Err, ℤ, List, [], ◌∷◌, length}
use Rattle.aec_params.specs.declared.settings.Settings.{Settings}
use Rattle.aec_params.specs.declared.fault.Fault.{Fault}
use Rattle.aec_params.specs.declared.fault.Fault.TheVariants.{SampleRange, TooManySamples}
use Rattle.aec_params.specs.Stored.{number_in, sample_of_number}

-- the samples that were taken, and why no more were, if one was refused (§2, §12; one list with its
-- refusal, where the code counts the good samples of a part, and codes between parts)
pub record TakenSamples : Type 0 where
  pub samples : List ℤ
  pub refusal : Option Fault

-- no samples, and why none were taken, if one was refused
abbrev pub none_taken : Option Fault → TakenSamples
none_taken refusal = record { samples = []; refusal = refusal }

-- sample i, which is out of range if its bytes are no sample
abbrev pub in_range : ℕ → Option ℤ → Result ℤ Fault
in_range i None = Err (SampleRange i)
in_range i (Some x) = Ok x

-- the bytes of sample i are judged: first by the limit, then by its range
abbrev pub judged_sample : Settings → ℕ → ℕ → List ℕ → Result ℤ Fault
judged_sample s limit i g = if nat_lt i limit then in_range i (sample_of_number s (number_in s g))
    else Err (TooManySamples limit)

-- a sample and those taken after it; or, if the sample is refused, none and its refusal
abbrev pub taken_before : Result ℤ Fault → TakenSamples → TakenSamples
taken_before (Ok x) later = record { samples = x ∷ later.samples; refusal = later.refusal }
taken_before (Err fault) later = none_taken (Some fault)

-- the samples in groups of bytes, of which the first is sample i
abbrev pub taken_groups : Settings → ℕ → ℕ → List (List ℕ) → TakenSamples
taken_groups s limit i [] = none_taken None
taken_groups s limit i (g ∷ gs) = taken_before (judged_sample s limit i g) (taken_groups s limit (i + 1) gs)

-- the refusal of all bytes at once: the first sample out of range if it lies before the limit; else
-- `TooManySamples` if there are more than `limit` samples (by cases of `samples_of_bytes`; `judged`
-- of `CutsMakeNoDifference` proves that it is the refusal of `taken_groups`)
abbrev pub judged_samples : ℕ → Result (List ℤ) ℕ → Option Fault
judged_samples limit (Ok samples) = if nat_lt limit (length samples) then Some (TooManySamples limit) else None
judged_samples limit (Err bad) = Some (if nat_lt bad limit then SampleRange bad else TooManySamples limit)
