-- For proofs alone: no public contract cites this file.
-- How a list of edits is judged before it is applied. The contract of `apply_all` cites
-- `all_after`, `all_needed` and `first_refusal` instead.
use Rattle.std.specs.Prelude.{◌≡◌, ℕ, ◌+◌, ◌-◌, ◌*◌, ◌/◌, ◌≤◌, Some, None, Result, Ok, Err, List, length, take, drop, ℤ}
use Rattle.std.specs.Int.{div_ceil}
use Rattle.aec_params.specs.declared.edit.Edit.{Edit}
use Rattle.aec_params.specs.Edits.{samples_after, needed_calls, Stretch}
use Rattle.aec_bits.specs.Codec.{Format, AreHeld}
use Rattle.aec_bits.specs.Refusals.{refusal_of}
use Rattle.aec_params.specs.declared.fault.Fault.{Fault}
use Rattle.aec_edit.specs.declared.batch.Change.{Change}
use Rattle.aec_edit.specs.Changes.{IsExchangeUpTo, exchanged, recoding_calls}
use Rattle.aec_edit.specs.Calls.{due_refusal}
use Rattle.aec_edit.specs.Batches.{all_after, all_needed, first_refusal}

-- the places that a change exchanges
abbrev pub gone_by : Change → Stretch
gone_by change = record { first = change.first; stop = change.stop }

-- `count` samples that the format holds
pub record HasCount (f : Format) (count : ℕ) (s : List ℤ) : Type 0 where
  pub length_is : length s ≡ count
  pub held : AreHeld f s

-- places of `count` samples that can be exchanged for len values
pub record CanExchangeIn (n limit count : ℕ) (gone : Stretch) (to len : ℕ) : Type 0 where
  pub there : count ≤ limit
  pub order : gone.first ≤ gone.stop
  pub within : gone.stop ≤ count
  pub before : gone.stop ≤ to * n
  pub inside : to ≤ div_ceil count n
  pub few : gone.first + len + (count - gone.stop) ≤ limit

-- the change that is this exchange of places of `count` samples
pub record IsExchangeFor (n count : ℕ) (gone : Stretch) (to : ℕ) (values : List ℤ) (change : Change) : Type 0 where
  pub first_is : change.first ≡ gone.first
  pub stop_is : change.stop ≡ gone.stop
  pub values_are : change.values.now ≡ values
  pub from_is : change.from ≡ gone.first / n
  pub to_is : change.to ≡ to
  pub needed_is : change.needed ≡ recoding_calls n count (record { gone = gone; to = to; values = length values })
  pub count_is : change.count ≡ gone.first + length values + (count - gone.stop)

-- an exchange of places of the samples s, and how many intervals it codes
pub record CanBeMade (f : Format) (limit : ℕ) (s : List ℤ) (change : Change) : Type 0 where
  pub can : IsExchangeUpTo f limit s (gone_by change) change.to change.values.now
  pub from_is : change.from ≡ change.first / f.most
  pub needed_is : change.needed ≡ recoding_calls f.most (length s)
      (record { gone = gone_by change; to = change.to; values = length change.values.now })
  pub count_is : change.count ≡ change.first + length change.values.now + (length s - change.stop)

-- an edit that fits, as the exchange of places for values that makes it
pub record IsChangeOf (f : Format) (limit : ℕ) (s : List ℤ) (e : Edit) (change : Change) : Type 0 where
  pub fits : refusal_of f limit s e ≡ None
  pub made : CanBeMade f limit s change
  pub needed : change.needed ≡ needed_calls f.most (length s) e
  pub left : samples_after s e ≡ exchanged (gone_by change) change.values.now s
  pub counted : HasCount f change.count (samples_after s e)
  pub few : change.count ≤ limit

-- an edit as a change, or why it doesn't fit
abbrev pub IsFitting : Format → ℕ → List ℤ → Edit → Result Change Fault → Type 0
IsFitting f limit s e (Ok change) = IsChangeOf f limit s e change
IsFitting f limit s e (Err fault) = refusal_of f limit s e ≡ Some fault

-- the refusal that is due for an edit, whose calls come after `calls`
abbrev pub IsDueFor : Format → ℕ → List ℤ → ℕ → Edit → Fault → Type 0
IsDueFor f limit s calls e fault = due_refusal f limit s calls e ≡ Some fault

-- the first edits, of which i fit, leave this state: what is due for the others is what is due for
-- all
pub record FitSoFar (f : Format) (limit : ℕ) (s : List ℤ) (calls : ℕ) (edits : List Edit) (i count : ℕ) : Type 0 where
  pub counted : HasCount f count (all_after s (take i edits))
  pub few : count ≤ limit
  pub due : first_refusal f limit s calls 0 edits
      ≡ first_refusal f limit (all_after s (take i edits)) (calls + all_needed f.most s (take i edits)) i (drop i edits)
