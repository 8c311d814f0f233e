-- For proofs alone: no public contract cites this file.
-- What the private functions of `judging` find in numbers of equal width.
use Rattle.std.specs.Prelude.{ℕ, ◌-◌, ◌*◌, ◌/◌, ◌^◌, ◌<◌, ◌≤◌, ◌⊎◌, if◌then◌else◌, List, length, drop}
use Rattle.aec_params.specs.declared.settings.Settings.{Settings}
use Rattle.aec_params.specs.Params.{storage_len}

-- the number from which on the unused bits copy the sign; if samples are unsigned, a number above
-- all
abbrev pub least_extended : Settings → ℕ
least_extended s = 2 ^ (8 * storage_len s) - (if s.signed then 2 ^ (s.bits - 1) else 0)

-- below `low`, or at least `high`
abbrev pub IsOutside : ℕ → ℕ → ℕ → Type 0
IsOutside low high u = (u < low) ⊎ (high ≤ u)

-- the numbers that bytes contain one after the other, n bytes each, are all outside
abbrev pub AreOutside : (List ℕ → ℕ) → ℕ → List ℕ → ℕ → ℕ → Type 0
AreOutside number n bytes low high = (k : ℕ) → k < length bytes / n → IsOutside low high (number (drop (n * k) bytes))

-- none of these numbers is above `most`
abbrev pub AreUpTo : (List ℕ → ℕ) → ℕ → List ℕ → ℕ → Type 0
AreUpTo number n bytes most = (k : ℕ) → k < length bytes / n → number (drop (n * k) bytes) ≤ most
