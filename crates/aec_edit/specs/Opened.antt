-- For proofs alone: no public contract cites this file.
-- The intervals that an exchange of places decodes: those that it touches and that keep a sample.
-- The contract of `apply` cites `samples_after`, `needed_calls` and `opened_intervals` instead.
use Rattle.std.specs.Prelude.{ℕ, ◌*◌, ◌≤◌, List, length, take, drop, ℤ}
use Rattle.std.specs.List.{flat_map}
use Rattle.aec_params.specs.Edits.{Stretch, reached_intervals, keeping_intervals}

-- places that exist among count samples
pub record HasPlaces (count : ℕ) (gone : Stretch) : Type 0 where
  pub order : gone.first ≤ gone.stop
  pub within : gone.stop ≤ count

-- which intervals of n samples an exchange of places decodes, if there are count samples
abbrev pub opened_by_exchange : ℕ → ℕ → Stretch → List ℕ
opened_by_exchange n count gone = keeping_intervals n count gone (reached_intervals n gone)

-- the first reached interval, if the exchange decodes it
abbrev pub opened_first : ℕ → ℕ → Stretch → List ℕ
opened_first n count gone = keeping_intervals n count gone (take 1 (reached_intervals n gone))

-- the decoded intervals after the first reached one
abbrev pub opened_behind : ℕ → ℕ → Stretch → List ℕ
opened_behind n count gone = keeping_intervals n count gone (drop 1 (reached_intervals n gone))

-- how many intervals an exchange decodes
abbrev pub opened_count : ℕ → ℕ → Stretch → ℕ
opened_count n count gone = length (opened_by_exchange n count gone)

-- the samples of intervals of n
abbrev pub samples_of : ℕ → List ℤ → List ℕ → List ℤ
samples_of n s intervals = flat_map (λ k. take n (drop (k * n) s)) intervals

-- the samples that an exchange decodes
abbrev pub opened_samples : ℕ → Stretch → List ℤ → List ℤ
opened_samples n gone s = samples_of n s (opened_by_exchange n (length s) gone)
