-- For proofs alone: no public contract cites this file.
-- What feeding a source to a coder results in, step by step.
use Rattle.std.specs.Prelude.{◌≡◌, ℕ, ◌+◌, ◌-◌, ◌*◌, Bool, false, Option, Some, List, [], length}
use Rattle.std.specs.Io.KnownBytes.{Consumes}
use Rattle.aec_params.specs.declared.settings.Settings.{Settings}
use Rattle.aec_params.specs.declared.fault.Fault.{Fault}
use Rattle.aec_params.specs.declared.fault.Fault.TheVariants.{Memory}
use Rattle.aec_params.specs.Params.{IsAllowed, storage_len}
use Rattle.aec_interval.specs.Feeding.{Coder, fresh_coder, Feeds}
use Rattle.aec_engine.specs.Transfers.{Input, input_of, Taking, Gave}
use Rattle.aec_engine.specs.Output.{are_refused, coding_refusal}

-- a new coder was fed what a source returned so far, in any pieces: its state, and the bits that it
-- appended
pub record IsFedSoFar (s : Settings) (limit : ℕ) (before after : Option (List ℕ)) (bits : List Bool)
    (coder : Coder) : Type 0 where
  pub allowed : IsAllowed s
  pub bytes : List ℕ
  pub taken : Consumes before after bytes
  pub feeds : Feeds (fresh_coder s limit) bytes [] bits coder

-- a new coder was fed all that a source returned
pub record IsFed (s : Settings) (limit : ℕ) (source : Taking) (bits : List Bool) (coder : Coder) : Type 0 where
  pub allowed : IsAllowed s
  pub bytes : List ℕ
  pub gave : Gave source (are_refused s limit) (input_of bytes false)
  pub feeds : Feeds (fresh_coder s limit) bytes [] bits coder

-- why it was not: `Memory`, or the refusal of what the source returned so far
pub data StopsCoding (s : Settings) (limit : ℕ) (source : Taking) : Fault → Type 0 where
  no_memory : StopsCoding s limit source Memory
  refused : (input : Input) (fault : Fault) → Gave source (are_refused s limit) input
      → coding_refusal s limit input ≡ Some fault
      → StopsCoding s limit source fault

-- how many more bytes a coder takes at most before one sample is too many
abbrev pub bytes_left : Coder → ℕ
bytes_left c = (c.limit + 1) * storage_len c.settings - (c.count * storage_len c.settings + length c.rest)
