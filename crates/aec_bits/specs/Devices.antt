-- Devices that fail at most once: after a failure each further call fails again.
use Rattle.std.specs.Prelude.{◌≡◌, ℕ, ◌+◌, ◌-◌, ◌^◌, min, List, take, Option, Result, MatchResult}
use Rattle.std.specs.Io.KnownBytes.{Appends}
use Rattle.aec_params.specs.declared.fault.Fault.{Fault}

-- A call fails with the device's fault exactly if the device fails now or failed earlier: the count
-- of failures is then 1. If a call succeeds, the count was 0 and is 0.
abbrev pub FailsOnce : {X : Type 0} → Fault → ℕ → ℕ → Result X Fault → Type 0
FailsOnce fault old new result = MatchResult result (λ _. (old ≡ 0) × (new ≡ 0)) (λ e. (e ≡ fault) × (new ≡ 1))

-- a count plus one, at most 2^64 - 1
abbrev pub counted : ℕ → ℕ
counted n = min (n + 1) (2 ^ 64 - 1)

-- if the bytes are known, some first part of bs is appended
abbrev pub AppendsFront : Option (List ℕ) → Option (List ℕ) → List ℕ → Type 0
AppendsFront old new bs = (n : ℕ) × Appends old new (take n bs)
