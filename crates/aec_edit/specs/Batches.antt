-- The result of a list of edits that are all applied, or none.
use Rattle.std.specs.Prelude.{◌≡◌, ℕ, ◌+◌, ◌≤◌, Option, Some, None, Ok, Err, Result, MatchOption, List, [], ◌∷◌, length, ℤ}
use Rattle.aec_params.specs.declared.fault.Fault.{Fault}
use Rattle.aec_params.specs.declared.fault.Fault.TheVariants.{Memory}
use Rattle.aec_params.specs.declared.edit.Edit.{Edit}
use Rattle.aec_params.specs.Edits.{samples_after, needed_calls}
use Rattle.aec_bits.specs.Codec.{Format}
use Rattle.aec_edit.specs.declared.outcome.Stop.{Stop}
use Rattle.aec_edit.specs.Calls.{due_refusal, RisesAtMost}

-- the samples that edits leave, applied one after the other (the code applies them in one pass)
abbrev pub all_after : List ℤ → List Edit → List ℤ
all_after s [] = s
all_after s (e ∷ edits) = all_after (samples_after s e) edits

-- how many intervals of n samples edits code, applied one after the other
abbrev pub all_needed : ℕ → List ℤ → List Edit → ℕ
all_needed n s [] = 0
all_needed n s (e ∷ edits) = needed_calls n (length s) e + all_needed n (samples_after s e) edits

-- the refusal of the edit at a place, if there is one; else what is due for the edits after it
abbrev pub stop_or : ℕ → Option Fault → Option Stop → Option Stop
stop_or place (Some fault) later = Some (record { place = place; fault = fault })
stop_or place None later = later

-- the first edit that would be refused, and why, if the edits are applied one after the other and
-- there is memory; the first one's place is `place`
abbrev pub first_refusal : Format → ℕ → List ℤ → ℕ → ℕ → List Edit → Option Stop
first_refusal f limit s calls place [] = None
first_refusal f limit s calls place (e ∷ edits) =
    stop_or place (due_refusal f limit s calls e)
    (first_refusal f limit (samples_after s e) (calls + needed_calls f.most (length s) e) (place + 1) edits)

-- all edits were applied: none is refused, the calls rise by one for each interval that was coded,
-- and these are no more than the edits code one after the other
pub record AreApplied (f : Format) (limit : ℕ) (s : List ℤ) (calls : ℕ) (edits : List Edit) (coded : ℕ) (left : List ℤ)
    (after : ℕ)
    : Type 0 where
  pub fit : first_refusal f limit s calls 0 edits ≡ None
  pub samples : left ≡ all_after s edits
  pub calls_are : after ≡ calls + coded
  pub few : coded ≤ all_needed f.most s edits

-- no edit was applied for lack of memory, though all of them fit; some calls may have been made by
-- then
pub record LackMemory (f : Format) (s : List ℤ) (calls : ℕ) (edits : List Edit) (stop : Stop) (after : ℕ) : Type 0 where
  pub stop_is : stop ≡ record { place = length edits; fault = Memory }
  pub rises : RisesAtMost (all_needed f.most s edits) calls after

-- no edit was applied: the first refusal that is due, without a call; else `Memory`
abbrev pub AreRefused : Format → ℕ → List ℤ → ℕ → List Edit → Stop → ℕ → Type 0
AreRefused f limit s calls edits stop after =
    MatchOption (first_refusal f limit s calls 0 edits)
    (LackMemory f s calls edits stop after)
    (λ due. (stop ≡ due) × (after ≡ calls))

-- edits that are all applied or none, from the samples s, and the samples and the codec's count of
-- calls after them
abbrev pub AreAllOrNone : Format → ℕ → List ℤ → ℕ → List Edit → Result ℕ Stop → List ℤ → ℕ → Type 0
AreAllOrNone f limit s calls edits (Ok coded) left after = AreApplied f limit s calls edits coded left after
AreAllOrNone f limit s calls edits (Err stop) left after = AreRefused f limit s calls edits stop after × (left ≡ s)
