-- The outcomes of a list of edits, applied one after the other.
use Rattle.std.specs.Prelude.{◌≡◌, ℕ, ◌+◌, List, [], ◌∷◌, length, ℤ}
use Rattle.aec_params.specs.declared.fault.Fault.TheVariants.{Memory}
use Rattle.aec_params.specs.declared.edit.Edit.{Edit}
use Rattle.aec_params.specs.Edits.{opened_intervals}
use Rattle.aec_bits.specs.Codec.{Format}
use Rattle.aec_edit.specs.declared.outcome.Outcome.{Outcome}
use Rattle.aec_edit.specs.declared.outcome.Outcome.TheVariants.{Done, Refused}
use Rattle.aec_edit.specs.Calls.{RisesAtMost}
use Rattle.aec_edit.specs.Steps.{Answers, samples_left}

-- the samples left by edits, each with its outcome
abbrev pub all_left : List ℤ → List Edit → List Outcome → List ℤ
all_left s [] outcomes = s
all_left s (e ∷ edits) [] = s
all_left s (e ∷ edits) (outcome ∷ outcomes) = all_left (samples_left s e outcome) edits outcomes

-- one outcome for each edit: an edit begins with the samples and the count of calls after the edits
-- before it (over both lists, where the code has a loop)
abbrev pub AnswersAll : Format → ℕ → List ℤ → ℕ → List Edit → List Outcome → ℕ → Type 0
AnswersAll f limit s calls [] [] after = after ≡ calls
AnswersAll f limit s calls [] (outcome ∷ outcomes) after = ⊥
AnswersAll f limit s calls (e ∷ edits) [] after = ⊥
AnswersAll f limit s calls (e ∷ edits) (outcome ∷ outcomes) after =
    (between : ℕ) × Answers f limit s calls e outcome between
    × AnswersAll f limit (samples_left s e outcome) between edits outcomes after

-- how many intervals the accepted edits coded (a sum over the outcomes, where the code counts in
-- the codec)
abbrev pub all_coded : List Outcome → ℕ
all_coded [] = 0
all_coded (Done coded ∷ outcomes) = coded + all_coded outcomes
all_coded (Refused fault ∷ outcomes) = all_coded outcomes

-- how many intervals an edit with this outcome may decode: none if it is refused for a reason other
-- than memory
abbrev pub opened_for : ℕ → ℕ → Edit → Outcome → ℕ
opened_for n old e (Done coded) = opened_intervals n old e
opened_for n old e (Refused Memory) = opened_intervals n old e
opened_for n old e (Refused fault) = 0

-- how many intervals edits with these outcomes may decode (a sum over the outcomes, where the code
-- counts in the codec)
abbrev pub all_opened : ℕ → List ℤ → List Edit → List Outcome → ℕ
all_opened n s [] outcomes = 0
all_opened n s (e ∷ edits) [] = 0
all_opened n s (e ∷ edits) (outcome ∷ outcomes) =
    opened_for n (length s) e outcome + all_opened n (samples_left s e outcome) edits outcomes

-- what a run of edits has done, from the samples s and the codec's counts of calls and reads: its
-- outcomes, the samples that are left, and the counts after it
pub record HasRun (f : Format) (limit : ℕ) (s : List ℤ) (calls reads : ℕ) (edits : List Edit) (done : List Outcome)
    (left : List ℤ)
    (calls_after reads_after : ℕ) : Type 0 where
  pub answers : AnswersAll f limit s calls edits done calls_after
  pub samples : left ≡ all_left s edits done
  pub decoded : RisesAtMost (all_opened f.most s edits done) reads reads_after
