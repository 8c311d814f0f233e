-- Runs of edits, one after the other.
use Rattle.std.proofs.Common.{◌≡◌, ℕ, ◌+◌, ◌<◌, ◌≤◌, List, [], ◌∷◌, ◌++◌, length, take, get_or, ℤ, Option, Some, None, MatchOption, is_some, if◌then◌else◌, refl, sym, ap, ◌∙◌, subst, arith, append_assoc}
use Rattle.std.proofs.lemmas.List.{take_more}
use Rattle.aec_params.specs.declared.edit.Edit.{Edit}
use Rattle.aec_bits.specs.Codec.{Format}
use Rattle.aec_params.specs.declared.fault.Fault.{Fault}
use Rattle.aec_params.specs.Edits.{needed_calls, opened_intervals}
use Rattle.aec_edit.specs.Calls.{RisesAtMost, due_refusal, opened_at_most}
use Rattle.aec_edit.specs.Steps.{Answers, LacksMemory, samples_left}
use Rattle.aec_edit.specs.declared.outcome.Outcome.TheVariants.{Done, Refused}
use Rattle.aec_edit.specs.Runs.{AnswersAll, HasRun, all_left, opened_for, all_opened}
use Rattle.aec_edit.specs.declared.outcome.Outcome.{Outcome}

-- two runs, one after the other, are one run
pub AnswersAll-append : (f : Format) (limit : ℕ) (s : List ℤ) (c m n : ℕ) (es fs : List Edit) (os ps : List Outcome)
    → AnswersAll f limit s c es os m → AnswersAll f limit (all_left s es os) m fs ps n → AnswersAll f limit s c (es ++ fs) (os ++ ps) n
AnswersAll-append f limit s c m n [] fs [] ps h k = subst (λ x. AnswersAll f limit s x fs ps n) h k
AnswersAll-append f limit s c m n [] fs (o ∷ os) ps h k = absurd h
AnswersAll-append f limit s c m n (e ∷ es) fs [] ps h k = absurd h
AnswersAll-append f limit s c m n (e ∷ es) fs (o ∷ os) ps h k =
    (h.0, h.1, AnswersAll-append f limit (samples_left s e o) h.0 m n es fs os ps h.2 k)

pub all_left-append : (f : Format) (limit : ℕ) (s : List ℤ) (c m : ℕ) (es fs : List Edit) (os ps : List Outcome)
    → AnswersAll f limit s c es os m → all_left s (es ++ fs) (os ++ ps) ≡ all_left (all_left s es os) fs ps
all_left-append f limit s c m [] fs [] ps h = refl
all_left-append f limit s c m [] fs (o ∷ os) ps h = absurd h
all_left-append f limit s c m (e ∷ es) fs [] ps h = absurd h
all_left-append f limit s c m (e ∷ es) fs (o ∷ os) ps h = all_left-append f limit (samples_left s e o) h.0 m es fs os ps h.2

all_opened-append : (f : Format) (limit n : ℕ) (s : List ℤ) (c m : ℕ) (es fs : List Edit) (os ps : List Outcome)
    → AnswersAll f limit s c es os m → all_opened n s (es ++ fs) (os ++ ps) ≡ all_opened n s es os + all_opened n (all_left s es os) fs ps
all_opened-append f limit n s c m [] fs [] ps h = omega arith
all_opened-append f limit n s c m [] fs (o ∷ os) ps h = absurd h
all_opened-append f limit n s c m (e ∷ es) fs [] ps h = absurd h
all_opened-append f limit n s c m (e ∷ es) fs (o ∷ os) ps h =
    let rest = all_opened-append f limit n (samples_left s e o) h.0 m es fs os ps h.2 in omega arith

-- ---- one more edit

-- an edit may decode no more intervals than `opened_for` says of its outcome
opened_few_refused : (f : Format) (limit : ℕ) (s : List ℤ) (calls : ℕ) (e : Edit) (fault : Fault) (after : ℕ) (due : Option Fault)
    → MatchOption due (LacksMemory (needed_calls f.most (length s) e) calls fault after) (λ d. (fault ≡ d) × (after ≡ calls))
    → (if is_some due then 0 else opened_intervals f.most (length s) e) ≤ opened_for f.most (length s) e (Refused fault)
opened_few_refused f limit s calls e fault after None h = rw h.fault_is (omega arith)
opened_few_refused f limit s calls e fault after (Some d) h = omega arith

opened_few : (f : Format) (limit : ℕ) (s : List ℤ) (calls : ℕ) (e : Edit) (o : Outcome) (after : ℕ) → Answers f limit s calls e o after
    → opened_at_most f limit s calls e ≤ opened_for f.most (length s) e o
opened_few f limit s calls e (Done coded) after h = rw h.fits (omega arith)
opened_few f limit s calls e (Refused fault) after h = opened_few_refused f limit s calls e fault after (due_refusal f limit s calls e) h

-- what a run has done so far; its outcomes come after the outcomes `before`
pub record HasAdded (f : Format) (limit : ℕ) (s : List ℤ) (calls reads : ℕ) (edits : List Edit) (before outcomes : List Outcome) (left : List ℤ)
    (calls_after reads_after : ℕ) : Type 0 where
  pub done : List Outcome
  pub added : outcomes ≡ before ++ done
  pub has_run : HasRun f limit s calls reads edits done left calls_after reads_after

pub HasRun-more : (f : Format) (limit : ℕ) (s : List ℤ) (calls reads : ℕ) (edits : List Edit) (edit : Edit) (done : List Outcome) (outcome : Outcome)
    (left next : List ℤ) (after last reads_after reads_last : ℕ) → HasRun f limit s calls reads edits done left after reads_after
    → Answers f limit left after edit outcome last → next ≡ samples_left left edit outcome
    → RisesAtMost (opened_at_most f limit left after edit) reads_after reads_last
    → HasRun f limit s calls reads (edits ++ edit ∷ []) (done ++ outcome ∷ []) next last reads_last
HasRun-more f limit s calls reads edits edit done outcome left next after last reads_after reads_last h a left_is rises =
    let here : Answers f limit (all_left s edits done) after edit outcome last = subst (λ l. Answers f limit l after edit outcome last) h.samples a in
    let few = opened_few f limit left after edit outcome last a in
    let same : opened_for f.most (length left) edit outcome ≡ opened_for f.most (length (all_left s edits done)) edit outcome =
    ap (λ l. opened_for f.most (length l) edit outcome) h.samples in
    let opened = all_opened-append f limit f.most s calls after edits (edit ∷ []) done (outcome ∷ []) h.answers in
    record {
      answers = AnswersAll-append f limit s calls after last edits (edit ∷ []) done (outcome ∷ []) h.answers (last, here, refl);
      samples = left_is ∙ ap (λ l. samples_left l edit outcome) h.samples ∙ sym (all_left-append f limit s calls after edits (edit ∷ []) done
          (outcome ∷ []) h.answers);
      decoded = record { stays = omega (arith, h.decoded.stays, rises.stays); few = omega (arith, h.decoded.few, rises.few) };
    }

-- edit i of a list is run, after the edits before it
pub run_goes_on : (f : Format) (limit : ℕ) (s : List ℤ) (calls reads : ℕ) (edits : List Edit) (i : ℕ) (edit : Edit)
    (before outcomes grown : List Outcome) (outcome : Outcome)
    (left next : List ℤ) (after last reads_after reads_last : ℕ) → HasAdded f limit s calls reads (take i edits) before outcomes left after reads_after
    → i < length edits → edit ≡ get_or edits i edit → Answers f limit left after edit outcome last → next ≡ samples_left left edit outcome
    → RisesAtMost (opened_at_most f limit left after edit) reads_after reads_last → grown ≡ outcomes ++ outcome ∷ []
    → HasAdded f limit s calls reads (take (i + 1) edits) before grown next last reads_last
run_goes_on f limit s calls reads edits i edit before outcomes grown outcome left next after last reads_after reads_last h within is a left_is rises grows =
    let front : take (i + 1) edits ≡ take i edits ++ edit ∷ [] = take_more edits i edit within ∙ ap (λ e. take i edits ++ e ∷ []) (sym is) in
    subst (λ es. HasAdded f limit s calls reads es before grown next last reads_last) (sym front) (record {
      done = h.done ++ outcome ∷ [];
      added = grows ∙ ap (λ l. l ++ outcome ∷ []) h.added ∙ append_assoc before h.done (outcome ∷ []);
      has_run = HasRun-more f limit s calls reads (take i edits) edit h.done outcome left next after last reads_after reads_last h.has_run a left_is rises;
    })
