-- All samples: the first number that is no sample, and the intervals one after the other.
use Rattle.std.proofs.Common.{◌≡◌, ℕ, ◌+◌, ◌<◌, Bool, true, false, IsTrue, Some, None, ℤ, List, [], ◌∷◌, rules}
use Rattle.std.specs.Prelude.{if◌then◌else◌}
use Rattle.std.specs.List.{AllByRecursion}
use Rattle.aec_params.specs.declared.settings.Settings.{Settings}
use Rattle.aec_params.specs.Params.{IsHeld, is_held, interval_len}
use Rattle.aec_params.specs.Streams.{stream_of}
use Rattle.aec_bits.specs.Refusals.{first_unheld}
use Rattle.aec_interval.proofs.CuttingLemmas.{pieces_of-nil}

-- ---- the first number that is no sample

pub all-held : (s : Settings) (i : ℕ) (v : List ℤ) → first_unheld (is_held s) i v ≡ None → AllByRecursion (IsHeld s) v
all-held s i [] h = tt
all-held s i (x ∷ v) h = by_test (is_held s x) h (all-held s (i + 1) v)
  where
    by_test : (t : Bool) → (if t then first_unheld (is_held s) (i + 1) v else Some i) ≡ None
        → (first_unheld (is_held s) (i + 1) v ≡ None → AllByRecursion (IsHeld s) v)
        → IsTrue t × AllByRecursion (IsHeld s) v
    by_test true e later = (search rules, later e)
    by_test false e later = absurd (cc)

-- ---- intervals

pub stream_of-nil : (s : Settings) → 0 < interval_len s → stream_of s [] ≡ []
stream_of-nil s h = rw pieces_of-nil
