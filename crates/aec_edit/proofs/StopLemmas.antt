-- Edits one after the other, all of them made so far.
use Rattle.std.proofs.Common.{◌≡◌, ℕ, ◌+◌, ◌<◌, ◌≤◌, Ok, Err, List, [], ◌∷◌, ◌++◌, length, take, drop, get_or, ℤ, sym, ap, ◌∙◌, subst, arith}
use Rattle.std.proofs.lemmas.List.{take_more, take-append-drop, length-take, drop_more, take_all}
use Rattle.aec_params.specs.declared.fault.Fault.{Fault}
use Rattle.aec_params.specs.declared.edit.Edit.{Edit}
use Rattle.aec_params.specs.Edits.{samples_after}
use Rattle.aec_bits.specs.Codec.{Format}
use Rattle.aec_edit.specs.declared.outcome.Outcome.{Outcome}
use Rattle.aec_edit.specs.declared.outcome.Outcome.TheVariants.{Done, Refused}
use Rattle.aec_edit.specs.Calls.{RisesAtMost, opened_at_most}
use Rattle.aec_edit.specs.Steps.{Answers}
use Rattle.aec_edit.specs.Runs.{HasRun}
use Rattle.aec_edit.specs.Stops.{AreDone, StopsAtRefusal, all_made, stopped}
use Rattle.aec_edit.proofs.RunLemmas.{HasRun-more}

-- what the edits have done, if all of them were made
pub record AreMade (f : Format) (limit : ℕ) (s : List ℤ) (calls reads : ℕ) (edits : List Edit) (left : List ℤ) (after reads_after : ℕ) : Type 0 where
  pub done : List Outcome
  pub are_done : AreDone done
  pub has_run : HasRun f limit s calls reads edits done left after reads_after

AreDone-more : (done : List Outcome) (coded : ℕ) → AreDone done → AreDone (done ++ (Done coded ∷ []))
AreDone-more [] coded made = tt
AreDone-more (Done before ∷ done) coded made = AreDone-more done coded made
AreDone-more (Refused fault ∷ done) coded made = absurd made

-- edit i of a list is made, after the edits before it
pub one_more_made : (f : Format) (limit : ℕ) (s : List ℤ) (calls reads : ℕ) (edits : List Edit) (i : ℕ) (edit : Edit) (coded : ℕ)
    (left next : List ℤ) (after last reads_after reads_last : ℕ) → AreMade f limit s calls reads (take i edits) left after reads_after
    → i < length edits → edit ≡ get_or edits i edit → Answers f limit left after edit (Done coded) last → next ≡ samples_after left edit
    → RisesAtMost (opened_at_most f limit left after edit) reads_after reads_last
    → AreMade f limit s calls reads (take (i + 1) edits) next last reads_last
one_more_made f limit s calls reads edits i edit coded left next after last reads_after reads_last made within is answer left_is rises =
    let front : take (i + 1) edits ≡ take i edits ++ edit ∷ [] = take_more edits i edit within ∙ ap (λ e. take i edits ++ e ∷ []) (sym is) in
    subst (λ es. AreMade f limit s calls reads es next last reads_last) (sym front) (record {
      done = made.done ++ (Done coded ∷ []);
      are_done = AreDone-more made.done coded made.are_done;
      has_run = HasRun-more f limit s calls reads (take i edits) edit made.done (Done coded) left next after last reads_after reads_last made.has_run
          answer left_is rises;
    })

pub ends_made : (f : Format) (limit : ℕ) (s : List ℤ) (calls reads : ℕ) (edits : List Edit) (i : ℕ) (left : List ℤ) (after reads_after : ℕ)
    → AreMade f limit s calls reads (take i edits) left after reads_after → length edits ≤ i
    → StopsAtRefusal f limit s calls reads edits (Ok tt) left after reads_after
ends_made f limit s calls reads edits i left after reads_after made all =
    let every : AreMade f limit s calls reads edits left after reads_after =
    subst (λ es. AreMade f limit s calls reads es left after reads_after) (take_all i edits all) made in
    all_made every.done left after reads_after every.are_done every.has_run

pub stops_here : (f : Format) (limit : ℕ) (s : List ℤ) (calls reads : ℕ) (edits : List Edit) (i : ℕ) (edit : Edit) (fault : Fault)
    (left next : List ℤ) (after last reads_after reads_last : ℕ) → AreMade f limit s calls reads (take i edits) left after reads_after
    → i < length edits → edit ≡ get_or edits i edit → Answers f limit left after edit (Refused fault) last → next ≡ left
    → RisesAtMost (opened_at_most f limit left after edit) reads_after reads_last
    → StopsAtRefusal f limit s calls reads edits (Err (record { place = i; fault = fault })) next last reads_last
stops_here f limit s calls reads edits i edit fault left next after last reads_after reads_last made within is answer left_is rises =
    let split : edits ≡ take i edits ++ (edit ∷ drop (i + 1) edits) =
    sym (take-append-drop i edits) ∙ ap (λ l. take i edits ++ l) (drop_more edits i edit within ∙ ap (λ e. e ∷ drop (i + 1) edits) (sym is)) in
    let place : length (take i edits) ≡ i = omega (arith, length-take i edits) in
    let run = HasRun-more f limit s calls reads (take i edits) edit made.done (Refused fault) left next after last reads_after reads_last made.has_run
    answer left_is rises in
    subst (λ n. StopsAtRefusal f limit s calls reads edits (Err (record { place = n; fault = fault })) next last reads_last) place
    (stopped (take i edits) edit (drop (i + 1) edits) made.done fault next last reads_last split made.are_done run)
