-- The outcome of one edit.
use Rattle.std.specs.Prelude.{◌≡◌, ℕ, ◌+◌, ◌<◌, ◌≤◌, None, Ok, Err, Result, MatchOption, List, ℤ, length}
use Rattle.aec_params.specs.declared.fault.Fault.{Fault}
use Rattle.aec_params.specs.declared.fault.Fault.TheVariants.{Memory}
use Rattle.aec_params.specs.declared.edit.Edit.{Edit}
use Rattle.aec_params.specs.Edits.{needed_calls, samples_after}
use Rattle.aec_bits.specs.Codec.{Format}
use Rattle.aec_edit.specs.declared.outcome.Outcome.{Outcome}
use Rattle.aec_edit.specs.declared.outcome.Outcome.TheVariants.{Done, Refused}
use Rattle.aec_edit.specs.Calls.{due_refusal, opened_at_most, RisesAtMost}

-- an edit of the samples s that is applied: no refusal is due, and the count of calls rises by one
-- for each interval that it codes
pub record IsAccepted (f : Format) (limit : ℕ) (s : List ℤ) (calls : ℕ) (e : Edit) (coded after : ℕ) : Type 0 where
  pub fits : due_refusal f limit s calls e ≡ None
  pub coded_is : coded ≡ needed_calls f.most (length s) e
  pub calls_are : after ≡ calls + coded

-- refused with `Memory`: the edit codes at least one interval, and some calls may have been made by
-- then (`IsRefused` says that the edit fits)
pub record LacksMemory (needed calls : ℕ) (fault : Fault) (after : ℕ) : Type 0 where
  pub fault_is : fault ≡ Memory
  pub some : 0 < needed
  pub stays : calls ≤ after
  pub few : after ≤ calls + needed

-- an edit of the samples s that is refused: if a refusal is due, with that refusal and without a
-- call; else with `Memory`
abbrev pub IsRefused : Format → ℕ → List ℤ → ℕ → Edit → Fault → ℕ → Type 0
IsRefused f limit s calls e fault after =
    MatchOption (due_refusal f limit s calls e)
    (LacksMemory (needed_calls f.most (length s) e) calls fault after)
    (λ due. (fault ≡ due) × (after ≡ calls))

-- the outcome of an edit of the samples s under a limit; `calls` and `after` are the codec's counts
-- of calls before and after the edit
abbrev pub Answers : Format → ℕ → List ℤ → ℕ → Edit → Outcome → ℕ → Type 0
Answers f limit s calls e (Done coded) after = IsAccepted f limit s calls e coded after
Answers f limit s calls e (Refused fault) after = IsRefused f limit s calls e fault after

-- the samples after an edit with this outcome: a refused edit changes none
abbrev pub samples_left : List ℤ → Edit → Outcome → List ℤ
samples_left s e (Done coded) = samples_after s e
samples_left s e (Refused fault) = s

-- a result as an outcome
abbrev pub outcome_of : Result ℕ Fault → Outcome
outcome_of (Ok coded) = Done coded
outcome_of (Err fault) = Refused fault

-- an edit and all that it does: its result, the samples s' that it leaves, and the calls of the
-- coder and the decoder after it (`append` and the private functions state it; `apply` states its
-- fields one by one)
pub record Applies (f : Format) (limit : ℕ) (s : List ℤ) (calls reads : ℕ) (e : Edit) (r : Result ℕ Fault)
    (s' : List ℤ) (calls' reads' : ℕ) : Type 0 where
  pub answer : Answers f limit s calls e (outcome_of r) calls'
  pub samples : s' ≡ samples_left s e (outcome_of r)
  pub opens : RisesAtMost (opened_at_most f limit s calls e) reads reads'
