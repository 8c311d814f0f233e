-- For proofs alone: no public contract cites this file.
-- Fresh samples that are taken one interval at a time. The contract of `apply` cites
-- `samples_after`, `needed_calls` and `opened_intervals` instead.
use Rattle.std.specs.Prelude.{◌≡◌, ℕ, ◌+◌, ◌*◌, ◌≤◌, ◌⊎◌, List, ◌++◌, length, take, drop, ℤ}

-- the samples s of the intervals of n from number next up to number end
abbrev pub old_part : ℕ → List ℤ → ℕ → ℕ → List ℤ
old_part n s next end = drop (next * n) (take (end * n) s)

-- the samples still to come: those before, the values, those after them, and those of old intervals
abbrev pub to_come : ℕ → List ℤ → List ℤ → List ℤ → List ℤ → ℕ → ℕ → List ℤ
to_come n s front values back next end = front ++ (values ++ (back ++ old_part n s next end))

-- front contains a whole interval, or all samples that are still to be coded
abbrev pub IsGathered : ℕ → List ℤ → List ℤ → Type 0
IsGathered n front coming = (n ≤ length front) ⊎ (front ≡ coming)

-- intervals are decoded one after the other: from now on at most as many as are left
pub record OpensAtMost (left left_after reads reads_after : ℕ) : Type 0 where
  pub stays : reads ≤ reads_after
  pub few : reads_after + left_after ≤ reads + left
