-- What the definitions of edits and runs were meant to say, each the contract of a function of
-- laws.rt.
use Rattle.std.specs.Prelude.{◌≡◌, ◌≢◌, ℕ, ◌+◌, ◌-◌, ◌*◌, ◌^◌, ◌<◌, ◌≤◌, None, List, [], ◌∷◌, ◌++◌, length, ℤ}
use Rattle.std.specs.List.{AllByRecursion}
use Rattle.aec_params.specs.declared.fault.Fault.{Fault}
use Rattle.aec_params.specs.declared.fault.Fault.TheVariants.{Memory}
use Rattle.aec_params.specs.declared.edit.Edit.{Edit}
use Rattle.aec_params.specs.declared.edit.Edit.TheVariants.{Overwrite, Append, Truncate, Insert, Remove}
use Rattle.aec_params.specs.declared.samples.Samples.{Samples}
use Rattle.aec_params.specs.Edits.{touched_intervals, needed_calls}
use Rattle.aec_bits.specs.Codec.{Format, AreHeld}
use Rattle.aec_bits.specs.Refusals.{refusal_of}
use Rattle.aec_edit.specs.declared.outcome.Outcome.{Outcome}
use Rattle.aec_edit.specs.declared.outcome.Outcome.TheVariants.{Done, Refused}
use Rattle.aec_edit.specs.Steps.{Answers, samples_left}
use Rattle.aec_edit.specs.Runs.{AnswersAll, all_left, all_coded}

-- ---- one edit

-- an overwrite that is applied counts one coder call for each interval that it touches
abbrev pub OverwritesCodeWhatTheyTouch : Type 0
OverwritesCodeWhatTheyTouch = (f : Format) (limit : ℕ) (s : List ℤ) (calls first : ℕ) (values : Samples)
    (coded after : ℕ)
    → Answers f limit s calls (Overwrite first values) (Done coded) after
    → (coded ≡ length (touched_intervals f.most first (length values)))
    × (after ≡ calls + length (touched_intervals f.most first (length values)))

-- a refused edit leaves the samples unchanged, and also the calls, unless the fault is `Memory`
abbrev pub RefusedEditsChangeNothing : Type 0
RefusedEditsChangeNothing = (f : Format) (limit : ℕ) (s : List ℤ) (calls : ℕ) (e : Edit) (fault : Fault) (after : ℕ)
    → Answers f limit s calls e (Refused fault) after
    → (samples_left s e (Refused fault) ≡ s) × (fault ≢ Memory → after ≡ calls)

-- which edits code nothing: those with no values or no places, a truncation that keeps all samples
-- or whole intervals, and a removal of whole intervals or from the beginning of one to the end
pub record CodesNothing (n old : ℕ) : Type 0 where
  pub overwrite : (first : ℕ) → needed_calls n old (Overwrite first []) ≡ 0
  pub append : needed_calls n old (Append []) ≡ 0
  pub keep : needed_calls n old (Truncate old) ≡ 0
  pub cut : (k : ℕ) → needed_calls n old (Truncate (k * n)) ≡ 0
  pub insert : (first : ℕ) → needed_calls n old (Insert first []) ≡ 0
  pub remove : (first : ℕ) → needed_calls n old (Remove first 0) ≡ 0
  pub remove_whole : (k j : ℕ) → needed_calls n old (Remove (k * n) (j * n)) ≡ 0
  pub remove_rest : (k : ℕ) → k * n ≤ old → needed_calls n old (Remove (k * n) (old - k * n)) ≡ 0

-- an edit that codes nothing and fits is applied, never refused with `Memory`
abbrev pub IsAlwaysMade : Type 0
IsAlwaysMade = (f : Format) (limit : ℕ) (s : List ℤ) (calls : ℕ) (e : Edit) (outcome : Outcome) (after : ℕ)
    → refusal_of f limit s e ≡ None → needed_calls f.most (length s) e ≡ 0
    → Answers f limit s calls e outcome after → (outcome ≡ Done 0) × (after ≡ calls)

-- which edits code nothing, and that those of them that fit are applied
pub record EditsThatCodeNothingAreMade : Type 0 where
  pub which : (n old : ℕ) → 0 < n → CodesNothing n old
  pub made : IsAlwaysMade

-- ---- runs

-- no edit of a run was refused with `Memory`
abbrev pub HadMemory : List Outcome → Type 0
HadMemory outcomes = AllByRecursion (λ outcome. outcome ≢ Refused Memory) outcomes

-- over a run the calls rise by what the accepted edits have coded, or by more if an edit was
-- refused with `Memory`
abbrev pub RunsCountTheirCalls : Type 0
RunsCountTheirCalls = (f : Format) (limit : ℕ) (s : List ℤ) (calls : ℕ) (edits : List Edit) (done : List Outcome)
    (after : ℕ)
    → AnswersAll f limit s calls edits done after
    → (calls + all_coded done ≤ after) × (HadMemory done → after ≡ calls + all_coded done)

-- two runs one after the other are one run of all their edits; one edit is a run
pub record RunsJoin : Type 0 where
  pub answers : (f : Format) (limit : ℕ) (s : List ℤ) (calls between after : ℕ) (edits others : List Edit)
      (done more : List Outcome)
      → AnswersAll f limit s calls edits done between
      → AnswersAll f limit (all_left s edits done) between others more after
      → AnswersAll f limit s calls (edits ++ others) (done ++ more) after
  pub samples : (f : Format) (limit : ℕ) (s : List ℤ) (calls between : ℕ) (edits others : List Edit)
      (done more : List Outcome)
      → AnswersAll f limit s calls edits done between
      → all_left s (edits ++ others) (done ++ more) ≡ all_left (all_left s edits done) others more
  pub one : (f : Format) (limit : ℕ) (s : List ℤ) (calls : ℕ) (e : Edit) (outcome : Outcome) (after : ℕ)
      → Answers f limit s calls e outcome after → AnswersAll f limit s calls (e ∷ []) (outcome ∷ []) after

-- edits have exactly one list of outcomes without `Memory`
pub record RunsHaveOneAnswer : Type 0 where
  pub some : (f : Format) (limit : ℕ) (s : List ℤ) (calls : ℕ) (edits : List Edit) → calls < 2 ^ 64
      → (done : List Outcome) × (after : ℕ) × AnswersAll f limit s calls edits done after × HadMemory done
      × (after < 2 ^ 64)
  pub one : (f : Format) (limit : ℕ) (s : List ℤ) (calls : ℕ) (edits : List Edit) (done other : List Outcome)
      (after last : ℕ)
      → AnswersAll f limit s calls edits done after → HadMemory done → AnswersAll f limit s calls edits other last
      → HadMemory other
      → (done ≡ other) × (after ≡ last)

-- edits leave samples that the format holds, and no more than the limit
abbrev pub RunsLeaveSamples : Type 0
RunsLeaveSamples = (f : Format) (limit : ℕ) (s : List ℤ) (calls : ℕ) (edits : List Edit) (done : List Outcome)
    (after : ℕ)
    → AnswersAll f limit s calls edits done after → AreHeld f s → length s ≤ limit
    → AreHeld f (all_left s edits done) × (length (all_left s edits done) ≤ limit)
