-- The results of coding and of cutting out a range for written-out inputs. A wrong line here fails
-- the check.
use Rattle.std.specs.Prelude.{◌≡◌, ℕ, true, false, Some, None, Ok, Err, pos, [], ◌∷◌, List, Bool, refl}
use Rattle.aec_params.specs.declared.fault.Fault.TheVariants.{SampleRange, TooManySamples, OutOfRange, Read}
use Rattle.aec_params.specs.Limits.{Caps}
use Rattle.aec_params.specs.Stored.{samples_of_bytes}
use Rattle.aec_params.proofs.WorkedSettings.{usual, twelve_bits, five_signed}
use Rattle.aec_interval.specs.Taking.{judged_samples}
use Rattle.aec_engine.specs.Transfers.{Input}
use Rattle.std.proofs.Common.{lit<, lit≤}
use Rattle.aec_params.proofs.WorkedReadings.{ramp_without_count, five_sevens}
use Rattle.aec_engine.specs.Output.{IsEncoded, are_refused, encoded, not_coded}
use Rattle.aec_engine.specs.Output.{IsRanged, not_taken, not_decoded, outside, cut_out}

-- at most `samples` samples; coding has no limit of bytes
abbrev at_most : ℕ → Caps
at_most samples = record { samples = samples; bytes = 0 }

-- what a source returned
abbrev input : List ℕ → Bool → Input
input bytes failed = record { bytes = bytes; failed = failed }

-- 16 and 224 have unused bits that are neither zeros nor the sign's
abbrev third_is_bad : List ℕ
third_is_bad = 31 ∷ 255 ∷ 224 ∷ []

bad_sample : judged_samples 3 (samples_of_bytes five_signed third_is_bad) ≡ Some (SampleRange 2)
bad_sample = refl

bad_after_the_limit : judged_samples 2 (samples_of_bytes five_signed third_is_bad) ≡ Some (TooManySamples 2)
bad_after_the_limit = refl

bad_before_the_limit : judged_samples 1 (samples_of_bytes five_signed (224 ∷ 0 ∷ [])) ≡ Some (SampleRange 0)
bad_before_the_limit = refl

-- three bytes are no more than one sample of two bytes
rest_left_out : samples_of_bytes twelve_bits (1 ∷ 0 ∷ 2 ∷ []) ≡ Ok (pos 1 ∷ [])
rest_left_out = refl

-- three bytes are no more than one sample, four are
one_and_a_half : are_refused twelve_bits 1 (1 ∷ 0 ∷ 2 ∷ []) ≡ false
one_and_a_half = refl

two_of_one : are_refused twelve_bits 1 (1 ∷ 0 ∷ 2 ∷ 0 ∷ []) ≡ true
two_of_one = refl

bad_is_enough : are_refused five_signed 3 third_is_bad ≡ true
bad_is_enough = refl

-- what is written for these bytes
one_sample : IsEncoded twelve_bits (at_most 1) (input (1 ∷ 0 ∷ 2 ∷ []) false) (Ok (0 ∷ 0 ∷ 192 ∷ []))
one_sample = encoded (pos 1 ∷ []) refl refl

no_samples : IsEncoded usual (at_most 0) (input [] false) (Ok [])
no_samples = encoded [] refl refl

-- a failure of the source is the refusal if no sample before it is refused
failed_source : IsEncoded five_signed (at_most 2) (input (31 ∷ 255 ∷ []) true) (Err Read)
failed_source = not_coded Read refl

failed_after_a_bad_sample : IsEncoded five_signed (at_most 3) (input third_is_bad true) (Err (SampleRange 2))
failed_after_a_bad_sample = not_coded (SampleRange 2) refl

failed_after_the_limit : IsEncoded five_signed (at_most 2) (input third_is_bad true) (Err (TooManySamples 2))
failed_after_the_limit = not_coded (TooManySamples 2) refl

-- ---- ranges

-- limits of samples and of bytes
abbrev both_limits : Caps
both_limits = record { samples = 4096; bytes = 4 }

-- the samples 0 to 7, coded
abbrev ramp_bytes : List ℕ
ramp_bytes = 0x20 ∷ 0x09 ∷ 0x24 ∷ 0x92 ∷ []

three_of_a_ramp : IsRanged usual both_limits None 2 3 (input ramp_bytes false) (Ok (2 ∷ 3 ∷ 4 ∷ []))
three_of_a_ramp = cut_out _ (record { taken = refl; within = refl; reading = ramp_without_count }) (lit≤ tt)

past_a_ramp : IsRanged usual both_limits None 6 3 (input ramp_bytes false) (Err (OutOfRange 8))
past_a_ramp = outside _ (record { taken = refl; within = refl; reading = ramp_without_count }) (lit< tt)

-- with a count, there are `count` samples
nothing_after_the_count : IsRanged usual both_limits (Some 5) 5 0 (input (0x00 ∷ 0x78 ∷ []) false) (Ok [])
nothing_after_the_count = cut_out _ (record { taken = refl; within = refl; reading = five_sevens }) (lit≤ tt)

past_the_count : IsRanged usual both_limits (Some 5) 3 3 (input (0x00 ∷ 0x78 ∷ []) false) (Err (OutOfRange 5))
past_the_count = outside _ (record { taken = refl; within = refl; reading = five_sevens }) (lit< tt)

-- a failure of the source is the refusal before any place
failed_range : IsRanged usual both_limits None 9 9 (input ramp_bytes true) (Err Read)
failed_range = not_decoded Read (not_taken Read refl)
