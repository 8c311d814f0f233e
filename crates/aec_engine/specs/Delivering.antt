-- For proofs alone: no public contract cites this file.
-- What writing bytes to a sink leaves.
use Rattle.std.specs.Prelude.{◌≡◌, ℕ, ◌+◌, ◌*◌, ◌≤◌, Option, Result, MatchResult, IfErr, OnOk, List, ◌++◌}
use Rattle.std.specs.Io.KnownBytes.{Appends}
use Rattle.aec_params.specs.declared.settings.Settings.{Settings}
use Rattle.aec_params.specs.declared.fault.Fault.{Fault}
use Rattle.aec_params.specs.declared.fault.Fault.TheVariants.{Write}
use Rattle.aec_params.specs.Params.{IsAllowed, interval_len}
use Rattle.aec_bits.specs.Devices.{AppendsFront}
use Rattle.aec_engine.specs.Transfers.{Putting, IsBegunFirst}

-- bytes that waited and then more bytes are written, except those that wait afterwards
pub record PutsPart (before after : Option (List ℕ)) (waited more waiting : List ℕ) : Type 0 where
  pub put : List ℕ
  pub appended : Appends before after put
  pub all : put ++ waiting ≡ waited ++ more

-- bytes are written to a sink, or a prefix of them if it failed
abbrev pub PutsAllOrFront : {X : Type 0} → Option (List ℕ) → Option (List ℕ) → List ℕ → Result X Fault → Type 0
PutsAllOrFront before after bytes result =
    MatchResult result (λ _. Appends before after bytes) (λ _. AppendsFront before after bytes)

-- after one `begin` bytes are written to a sink, or a prefix of them if it failed
pub record Delivers (bytes : List ℕ) (sink : Putting) (result : Result (Unit {0}) Fault) : Type 0 where
  pub puts : PutsAllOrFront sink.before sink.after bytes result
  pub begun : IsBegunFirst sink
  pub fault : IfErr result (λ e. (e ≡ Write) × (sink.failures ≡ 1))
  pub sound : OnOk result (sink.failures ≡ 0)

-- how often a sink was begun, what it had taken when it was last begun, and how often it has failed
pub record SinkState : Type 0 where
  pub begun : ℕ
  pub mark : Option (List ℕ)
  pub failed : ℕ

-- the state of a sink by what its kind states
abbrev pub sink_state : {W : Type 0} → (W → ℕ) → (W → Option (List ℕ)) → (W → ℕ) → W → SinkState
sink_state begun mark failed sink = record { begun = begun sink; mark = mark sink; failed = failed sink }

-- a sink is not begun again, and its failure is the only refusal
pub record StaysBegun (old new : SinkState) (result : Result (Unit {0}) Fault) : Type 0 where
  pub begun : new.begun ≡ old.begun
  pub order : new.mark ≡ old.mark
  pub fault : IfErr result (λ e. (e ≡ Write) × (new.failed ≡ 1))
  pub failures : OnOk result (new.failed ≡ old.failed)

-- the settings are allowed, and buffers of these capacities have room for the samples of an
-- interval, and for its bytes after those that wait
pub record HaveRoom (s : Settings) (samples bytes : ℕ) : Type 0 where
  pub allowed : IsAllowed s
  pub room : interval_len s ≤ samples
  pub buffer : 65536 + 4 * interval_len s ≤ bytes
