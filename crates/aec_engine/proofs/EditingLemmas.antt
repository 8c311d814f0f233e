-- Edits of a script that were made one after the other, up to the first that is refused.
use Rattle.std.proofs.Common.{◌≡◌, ℕ, ◌+◌, ◌<◌, ◌≤◌, inl, inr, Option, Some, None, Result, Ok, Err, ℤ, List, [], ◌∷◌, ◌++◌, length, slice_index, refl, sym, ap, ◌∙◌, subst, arith}
use Rattle.std.specs.Prelude.{MatchOption}
use Rattle.std.specs.Option.{option_map_or}
use Rattle.std.proofs.lemmas.List.{length-append}
use Rattle.aec_params.specs.declared.fault.Fault.{Fault}
use Rattle.aec_params.specs.declared.edit.Edit.{Edit}
use Rattle.aec_params.specs.Edits.{samples_after, needed_calls}
use Rattle.aec_bits.specs.Codec.{Format}
use Rattle.aec_edit.specs.declared.outcome.Outcome.{Outcome}
use Rattle.aec_edit.specs.declared.outcome.Outcome.TheVariants.{Done, Refused}
use Rattle.aec_edit.specs.declared.outcome.Stop.{Stop}
use Rattle.aec_edit.specs.Calls.{due_refusal}
use Rattle.aec_edit.specs.Steps.{LacksMemory, IsRefused}
use Rattle.aec_edit.specs.Runs.{AnswersAll, all_left}
use Rattle.aec_edit.specs.Stops.{AreDone, StopsAtRefusal, all_made, stopped}
use Rattle.aec_engine.specs.declared.scripts.EditFault.{EditFault}
use Rattle.aec_engine.specs.declared.scripts.EditFault.TheVariants.{Line}
use Rattle.aec_engine.specs.Editing.{left_with, edits_left, LacksMemoryOn}
use Rattle.aec_engine.specs.EditingSteps as steps
use Rattle.aec_engine.specs.EditingSteps.{StopsEditing, misfit, CarriesOut, named_by}

-- an edit that is made
pub edits_left-made : (f : Format) (limit calls : ℕ) (s : List ℤ) (e : Edit) (n : ℕ) (edits : List Edit) (lines : List ℕ)
    → due_refusal f limit s calls e ≡ None
    → edits_left f limit calls s (e ∷ edits) (n ∷ lines)
    ≡ edits_left f limit (calls + needed_calls f.most (length s) e) (samples_after s e) edits lines
edits_left-made f limit calls s e n edits lines fits =
    ap (λ t. option_map_or (λ fault. Err (Line n fault)) t
    (edits_left f limit (calls + needed_calls f.most (length s) e) (samples_after s e) edits lines)) fits

-- all edits were made
edits_left-all : (f : Format) (limit calls after : ℕ) (s : List ℤ) (edits : List Edit) (done : List Outcome) (lines : List ℕ)
    → AreDone done → AnswersAll f limit s calls edits done after → length edits ≤ length lines
    → edits_left f limit calls s edits lines ≡ Ok (left_with (all_left s edits done) after)
edits_left-all f limit calls after s [] [] lines made answers enough = ap (λ k. Ok (left_with s k)) (sym answers)
edits_left-all f limit calls after s [] (outcome ∷ done) lines made answers enough = absurd answers
edits_left-all f limit calls after s (e ∷ edits) [] lines made answers enough = absurd answers
edits_left-all f limit calls after s (e ∷ edits) (Refused fault ∷ done) lines made answers enough = absurd made
edits_left-all f limit calls after s (e ∷ edits) (Done coded ∷ done) [] made answers enough = absurd (omega (arith, enough))
edits_left-all f limit calls after s (e ∷ edits) (Done coded ∷ done) (n ∷ lines) made answers enough =
    let here = answers.1 in
    let then : answers.0 ≡ calls + needed_calls f.most (length s) e = omega (arith, here.calls_are, here.coded_is) in
    edits_left-made f limit calls s e n edits lines here.fits
    ∙ (ap (λ k. edits_left f limit k (samples_after s e) edits lines) (sym then)
    ∙ edits_left-all f limit answers.0 after (samples_after s e) edits done lines made answers.2 (omega (arith, enough)))

-- if the edits after an applied edit stop, all edits stop in the same way
stops-behind : (f : Format) (limit calls between : ℕ) (s : List ℤ) (e : Edit) (n : ℕ) (edits : List Edit) (lines : List ℕ) (why : EditFault)
    → due_refusal f limit s calls e ≡ None → between ≡ calls + needed_calls f.most (length s) e
    → StopsEditing f limit between (samples_after s e) edits lines why → StopsEditing f limit calls s (e ∷ edits) (n ∷ lines) why
stops-behind f limit calls between s e n edits lines why fits then (misfit fault is) = misfit fault
    (edits_left-made f limit calls s e n edits lines fits ∙ (ap (λ k. edits_left f limit k (samples_after s e) edits lines) (sym then) ∙ is))
stops-behind f limit calls between s e n edits lines why fits then (steps.lacks_memory line lacks) =
    steps.lacks_memory line (fits, inr (subst (λ k. LacksMemoryOn f limit k (samples_after s e) edits lines line) then lacks))

-- an edit that is refused
pub next_stops : (f : Format) (limit calls after : ℕ) (s : List ℤ) (e : Edit) (n : ℕ) (fault : Fault) (edits : List Edit) (lines : List ℕ)
    → IsRefused f limit s calls e fault after → StopsEditing f limit calls s (e ∷ edits) (n ∷ lines) (Line n fault)
next_stops f limit calls after s e n fault edits lines refused = by_refusal (due_refusal f limit s calls e) refl refused
  where
    needed : ℕ
    needed = needed_calls f.most (length s) e

    by_refusal : (t : Option Fault) → due_refusal f limit s calls e ≡ t
        → MatchOption t (LacksMemory needed calls fault after) (λ due. (fault ≡ due) × (after ≡ calls))
        → StopsEditing f limit calls s (e ∷ edits) (n ∷ lines) (Line n fault)
    by_refusal (Some due) is named = misfit (Line n fault)
        (ap (λ t. option_map_or (λ fault. Err (Line n fault)) t (edits_left f limit (calls + needed) (samples_after s e) edits lines)) is
        ∙ ap (λ due. Err (Line n due)) (sym named.0))
    by_refusal None is lacks =
        subst (λ fault. StopsEditing f limit calls s (e ∷ edits) (n ∷ lines) (Line n fault)) (sym lacks.fault_is)
        (steps.lacks_memory n (is, inl (refl, lacks.some)))

-- an edit that is refused after others that were made
stops-after : (f : Format) (limit calls after : ℕ) (s : List ℤ) (before : List Edit) (e : Edit) (behind : List Edit) (done : List Outcome)
    (fault : Fault) (lines : List ℕ) (n : ℕ) → AreDone done → AnswersAll f limit s calls (before ++ (e ∷ [])) (done ++ (Refused fault ∷ [])) after
    → length before < length lines → n ≡ slice_index lines (length before)
    → StopsEditing f limit calls s (before ++ (e ∷ behind)) lines (Line n fault)
stops-after f limit calls after s before e behind done fault [] n made answers inside line = absurd (omega (arith, inside))
stops-after f limit calls after s [] e behind [] fault (m ∷ lines) n made answers inside line =
    subst (λ n. StopsEditing f limit calls s (e ∷ behind) (m ∷ lines) (Line n fault)) (sym line)
    (next_stops f limit calls answers.0 s e m fault behind lines answers.1)
stops-after f limit calls after s [] e behind (outcome ∷ []) fault (m ∷ lines) n made answers inside line = absurd answers.2
stops-after f limit calls after s [] e behind (outcome ∷ other ∷ done) fault (m ∷ lines) n made answers inside line = absurd answers.2
stops-after f limit calls after s (d ∷ []) e behind [] fault (m ∷ lines) n made answers inside line = absurd answers.2
stops-after f limit calls after s (d ∷ c ∷ before) e behind [] fault (m ∷ lines) n made answers inside line = absurd answers.2
stops-after f limit calls after s (d ∷ before) e behind (Refused other ∷ done) fault (m ∷ lines) n made answers inside line = absurd made
stops-after f limit calls after s (d ∷ before) e behind (Done coded ∷ done) fault (m ∷ lines) n made answers inside line =
    let here = answers.1 in
    let then : answers.0 ≡ calls + needed_calls f.most (length s) d = omega (arith, here.calls_are, here.coded_is) in
    stops-behind f limit calls answers.0 s d m (before ++ (e ∷ behind)) lines (Line n fault) here.fits then
    (stops-after f limit answers.0 after (samples_after s d) before e behind done fault lines n made answers.2 (omega (arith, inside)) line)

-- ---- the same, stated by the code's variables

pub carried-all : (f : Format) (limit calls reads after reads_after : ℕ) (s left : List ℤ) (given edits : List Edit) (lines : List ℕ)
    (r : Result (Unit {0}) Stop) (u : Unit {0}) → r ≡ Ok u → given ≡ edits → StopsAtRefusal f limit s calls reads given r left after reads_after
    → length edits ≤ length lines → edits_left f limit calls s edits lines ≡ Ok (left_with left after)
carried-all f limit calls reads after reads_after s left given edits lines r u is same (all_made done l last reads_last made run) enough =
    subst (λ es. edits_left f limit calls s es lines ≡ Ok (left_with left after)) same
    (edits_left-all f limit calls after s given done lines made run.answers (omega (arith, ap length same, enough))
    ∙ ap (λ l. Ok (left_with l after)) (sym run.samples))
carried-all f limit calls reads after reads_after s left given edits lines r u is same
    (stopped before e behind done fault l last reads_last split made run) enough = absurd (cc)

pub carried-stops : (f : Format) (limit calls reads after reads_after : ℕ) (s left : List ℤ) (given edits : List Edit) (lines : List ℕ)
    (r : Result (Unit {0}) Stop) (stop : Stop) (n : ℕ) → r ≡ Err stop → given ≡ edits → StopsAtRefusal f limit s calls reads given r left after reads_after
    → length edits ≤ length lines → n ≡ slice_index lines stop.place → StopsEditing f limit calls s edits lines (Line n stop.fault)
carried-stops f limit calls reads after reads_after s left given edits lines r stop n is same (all_made done l last reads_last made run) enough line =
    absurd (cc)
carried-stops f limit calls reads after reads_after s left given edits lines r stop n is same
    (stopped before e behind done fault l last reads_last split made run) enough line =
    subst (λ es. StopsEditing f limit calls s es lines (Line n stop.fault)) (sym split ∙ same)
    (subst (λ fault. StopsEditing f limit calls s (before ++ (e ∷ behind)) lines (Line n fault)) named
    (stops-after f limit calls last s before e behind done fault lines n made run.answers inside (line ∙ ap (slice_index lines) (sym place))))
  where
    place : length before ≡ stop.place
    place = cc

    named : fault ≡ stop.fault
    named = cc

    inside : length before < length lines
    inside = omega (arith, ap length split, ap length same, length-append before (e ∷ behind), enough)

-- the refused edit is one of the given edits
pub stop-within : (f : Format) (limit calls reads after reads_after : ℕ) (s left : List ℤ) (given : List Edit) (r : Result (Unit {0}) Stop) (stop : Stop)
    → r ≡ Err stop → StopsAtRefusal f limit s calls reads given r left after reads_after → stop.place < length given
stop-within f limit calls reads after reads_after s left given r stop is (all_made done l last reads_last made run) = absurd (cc)
stop-within f limit calls reads after reads_after s left given r stop is (stopped before e behind done fault l last reads_last split made run) =
    omega (arith, place, ap length split, length-append before (e ∷ behind))
  where
    place : length before ≡ stop.place
    place = cc

pub carries : (f : Format) (limit calls reads after reads_after : ℕ) (s left : List ℤ) (given edits : List Edit) (lines : List ℕ)
    (end : Result (Unit {0}) Stop) (result : Result (Unit {0}) EditFault) → given ≡ edits
    → StopsAtRefusal f limit s calls reads given end left after reads_after → result ≡ named_by lines end
    → CarriesOut f limit s calls reads edits lines result left after reads_after
carries f limit calls reads after reads_after s left given edits lines end result same run named = record {
  end = end;
  run = subst (λ es. StopsAtRefusal f limit s calls reads es end left after reads_after) same run;
  named = named;
}
