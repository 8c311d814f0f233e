-- Bytes with too many samples are refused.
use Rattle.std.proofs.Common.{◌≡◌, ℕ, ◌/◌, ◌<◌, true, if◌then◌else◌, Some, None, Result, Ok, Err, ℤ, List, length, refl, sym, ap, subst}
use Rattle.std.specs.Prelude.{is_some}
use Rattle.std.proofs.lemmas.Bool.{lt-ltb}
use Rattle.aec_params.specs.declared.settings.Settings.{Settings}
use Rattle.aec_params.specs.declared.fault.Fault.TheVariants.{TooManySamples}
use Rattle.aec_params.specs.Params.{storage_len}
use Rattle.aec_params.specs.Stored.{samples_of_bytes}
use Rattle.aec_interval.specs.Taking.{judged_samples}
use Rattle.aec_interval.proofs.TakingLemmas.{length-samples_of_bytes}
use Rattle.aec_engine.specs.Output.{are_refused}

-- more samples than the limit are refused
pub many_are_refused : (s : Settings) (limit : ℕ) (bytes : List ℕ) → limit < length bytes / storage_len s → are_refused s limit bytes ≡ true
many_are_refused s limit bytes many = by_samples (samples_of_bytes s bytes) refl
  where
    by_samples : (t : Result (List ℤ) ℕ) → samples_of_bytes s bytes ≡ t → is_some (judged_samples limit t) ≡ true
    by_samples (Ok xs) read =
        let more : limit < length xs = subst (λ n. limit < n) (sym (length-samples_of_bytes s bytes xs read)) many in
        ap (λ t. is_some (if t then Some (TooManySamples limit) else None)) (lt-ltb limit (length xs) more)
    by_samples (Err bad) read = refl
