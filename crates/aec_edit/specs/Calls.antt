-- Why an edit or a range is refused if there is memory, and how many intervals are decoded for it.
use Rattle.std.specs.Prelude.{◌≡◌, ℕ, ◌+◌, ◌-◌, ◌^◌, ◌≤◌, nat_lt, if◌then◌else◌, Option, Some, None, List, ℤ, length, is_some}
use Rattle.std.specs.Option.{option_or}
use Rattle.aec_params.specs.declared.fault.Fault.{Fault}
use Rattle.aec_params.specs.declared.fault.Fault.TheVariants.{Spent, Memory, OutOfRange}
use Rattle.aec_params.specs.declared.edit.Edit.{Edit}
use Rattle.aec_params.specs.Edits.{needed_calls, opened_intervals}
use Rattle.aec_bits.specs.Codec.{Format}
use Rattle.aec_bits.specs.Refusals.{refusal_of}

-- `Spent` if the edit needs more calls than are left of 2^64 - 1
abbrev pub want_of_calls : ℕ → ℕ → Option Fault
want_of_calls calls needed = if nat_lt (2 ^ 64 - 1 - calls) needed then Some Spent else None

-- why an edit of the samples s is refused if there is memory: it does not fit, or too few calls are
-- left (one function of edit and calls, where the code judges each rule in its own place, before
-- any call)
abbrev pub due_refusal : Format → ℕ → List ℤ → ℕ → Edit → Option Fault
due_refusal f limit s calls e = option_or (refusal_of f limit s e)
    (want_of_calls calls (needed_calls f.most (length s) e))

-- how many intervals an edit may decode: none if it is refused for a reason other than memory
abbrev pub opened_at_most : Format → ℕ → List ℤ → ℕ → Edit → ℕ
opened_at_most f limit s calls e = if is_some (due_refusal f limit s calls e) then 0
    else opened_intervals f.most (length s) e

-- a count that rises by at most `by`
pub record RisesAtMost (by old new : ℕ) : Type 0 where
  pub stays : old ≤ new
  pub few : new ≤ old + by

-- why a range is refused: len samples from place first on, of count
abbrev pub range_refusal : ℕ → ℕ → ℕ → Option Fault
range_refusal count first len = if nat_lt count (first + len) then Some (OutOfRange count) else None

-- the refusal that is due, or `Memory` if none is due
abbrev pub IsDue : Option Fault → Fault → Type 0
IsDue (Some due) fault = fault ≡ due
IsDue None fault = fault ≡ Memory
