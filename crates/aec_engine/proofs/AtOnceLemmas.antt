-- Edits of a script that are applied as one.
use Rattle.std.proofs.Common.{◌≡◌, ◌⊎◌, ℕ, ◌+◌, ◌<◌, ◌≤◌, inl, inr, suc, Bool, true, false, Option, Some, None, is_some, Ok, Err, ℤ, List, [], ◌∷◌, ◌++◌, length, slice_index, refl, sym, ap, ◌∙◌, subst, arith, length-append}
use Rattle.std.specs.Prelude.{MatchOption, ⊤}
use Rattle.std.specs.Option.{option_map_or}
use Rattle.aec_params.specs.declared.fault.Fault.{Fault}
use Rattle.aec_params.specs.declared.fault.Fault.TheVariants.{Memory}
use Rattle.aec_params.specs.declared.edit.Edit.{Edit}
use Rattle.aec_params.specs.Edits.{samples_after, needed_calls}
use Rattle.aec_bits.specs.Codec.{Format}
use Rattle.aec_edit.specs.declared.outcome.Stop.{Stop}
use Rattle.aec_edit.specs.Calls.{due_refusal}
use Rattle.aec_edit.specs.Batches.{all_after, all_needed, stop_or, first_refusal, LackMemory, AreAllOrNone}
use Rattle.aec_edit.proofs.BatchLaws.{none_due, none_before}
use Rattle.aec_engine.specs.declared.scripts.EditFault.{EditFault}
use Rattle.aec_engine.specs.declared.scripts.EditFault.TheVariants.{Plain, Line}
use Rattle.aec_engine.specs.declared.scripts.Script.{Script}
use Rattle.aec_engine.specs.declared.script_edits.NextEdit.{NextEdit}
use Rattle.aec_engine.specs.declared.script_edits.EditsAhead.{EditsAhead}
use Rattle.aec_engine.specs.Scripts.{change, Listing, listed}
use Rattle.aec_engine.specs.ScriptLines.{after_listed}
use Rattle.aec_engine.specs.Editing.{Left, left_with, edits_left}
use Rattle.aec_engine.specs.EditingSteps.{StopsAsOne, StopsEditing, misfit}
use Rattle.aec_engine.specs.EditsAhead.{IsReady, TakesNext, TakesSome, behind, left_in, no_edits, with_next}
use Rattle.aec_engine.specs.EarlyEdits.{LeadsToEdits}
use Rattle.aec_engine.proofs.EditingLemmas.{edits_left-made}
use Rattle.aec_engine.proofs.EarlyEditLemmas.{leads-nowhere, leads-on, leads-made, leads-stop}

-- ---- the edits of a list, judged as one

-- no edit of the list is refused
pub all_fit : (f : Format) (limit calls place : ℕ) (s : List ℤ) (edits : List Edit) (lines : List ℕ) → length edits ≡ length lines
    → first_refusal f limit s calls place edits ≡ None
    → edits_left f limit calls s edits lines ≡ Ok (left_with (all_after s edits) (calls + all_needed f.most s edits))
all_fit f limit calls place s [] lines counted none = ap (λ k. Ok (left_with s k)) (omega arith)
all_fit f limit calls place s (e ∷ edits) [] counted none = absurd (omega (arith, counted))
all_fit f limit calls place s (e ∷ edits) (n ∷ lines) counted none =
    let needed = needed_calls f.most (length s) e in
    let both = none_due place (due_refusal f limit s calls e) (first_refusal f limit (samples_after s e) (calls + needed) (place + 1) edits) none in
    edits_left-made f limit calls s e n edits lines both.0
    ∙ (all_fit f limit (calls + needed) (place + 1) (samples_after s e) edits lines (omega (arith, counted)) both.1
    ∙ ap (λ k. Ok (left_with (all_after (samples_after s e) edits) k)) (omega arith))

-- an edit of the list is refused: its place counts from `place` on
pub record IsStopOf (f : Format) (limit calls place : ℕ) (s : List ℤ) (edits : List Edit) (lines : List ℕ) (stop : Stop) : Type 0 where
  pub index : ℕ
  pub place_is : stop.place ≡ place + index
  pub within : index < length edits
  pub left : edits_left f limit calls s edits lines ≡ Err (Line (slice_index lines index) stop.fault)

stop_next : (f : Format) (limit calls place : ℕ) (s : List ℤ) (e : Edit) (edits : List Edit) (n : ℕ) (lines : List ℕ) (stop : Stop)
    → due_refusal f limit s calls e ≡ None
    → IsStopOf f limit (calls + needed_calls f.most (length s) e) (place + 1) (samples_after s e) edits lines stop
    → IsStopOf f limit calls place s (e ∷ edits) (n ∷ lines) stop
stop_next f limit calls place s e edits n lines stop fits later = record {
  index = suc later.index;
  place_is = omega (arith, later.place_is);
  within = omega (arith, later.within);
  left = edits_left-made f limit calls s e n edits lines fits ∙ later.left;
}

stop_here : (f : Format) (limit calls place : ℕ) (s : List ℤ) (e : Edit) (edits : List Edit) (n : ℕ) (lines : List ℕ) (stop : Stop) (fault : Fault)
    → due_refusal f limit s calls e ≡ Some fault
    → stop_or place (Some fault) (first_refusal f limit (samples_after s e) (calls + needed_calls f.most (length s) e) (place + 1) edits) ≡ Some stop
    → IsStopOf f limit calls place s (e ∷ edits) (n ∷ lines) stop
stop_here f limit calls place s e edits n lines stop fault due named =
    let is_place : place ≡ stop.place = cc in
    let is_fault : fault ≡ stop.fault = cc in
    record {
      index = 0;
      place_is = omega (arith, is_place);
      within = omega arith;
      left = ap (λ t. option_map_or (λ fault. Err (Line n fault)) t
          (edits_left f limit (calls + needed_calls f.most (length s) e) (samples_after s e) edits lines)) due
          ∙ ap (λ why. Err (Line n why)) is_fault;
    }

pub one_stops : (f : Format) (limit calls place : ℕ) (s : List ℤ) (edits : List Edit) (lines : List ℕ) (stop : Stop) → length edits ≡ length lines
    → first_refusal f limit s calls place edits ≡ Some stop → IsStopOf f limit calls place s edits lines stop
one_stops f limit calls place s [] lines stop counted is = absurd (cc)
one_stops f limit calls place s (e ∷ edits) [] stop counted is = absurd (omega (arith, counted))
one_stops f limit calls place s (e ∷ edits) (n ∷ lines) stop counted is =
    by_due (due_refusal f limit s calls e) refl is
    (one_stops f limit (calls + needed_calls f.most (length s) e) (place + 1) (samples_after s e) edits lines stop (omega (arith, counted)))
  where
    needed : ℕ
    needed = needed_calls f.most (length s) e

    by_due : (here : Option Fault) → due_refusal f limit s calls e ≡ here
        → stop_or place here (first_refusal f limit (samples_after s e) (calls + needed) (place + 1) edits) ≡ Some stop
        → (first_refusal f limit (samples_after s e) (calls + needed) (place + 1) edits ≡ Some stop
        → IsStopOf f limit (calls + needed) (place + 1) (samples_after s e) edits lines stop)
        → IsStopOf f limit calls place s (e ∷ edits) (n ∷ lines) stop
    by_due (Some fault) due named later = stop_here f limit calls place s e edits n lines stop fault due named
    by_due None due named later = stop_next f limit calls place s e edits n lines stop due (later named)

-- ---- a list of edits, and edits after it

-- edits that are all applied lead to the edits after them
pub leads-some : (f : Format) (limit calls : ℕ) (s : List ℤ) (edits : List Edit) (lines : List ℕ) (rest : Listing) (to : Left)
    → length edits ≡ length lines → edits_left f limit calls s edits lines ≡ Ok to
    → LeadsToEdits f limit (left_with s calls) (after_listed edits lines rest) to rest
leads-some f limit calls s [] (n ∷ lines) rest to counted is = absurd (omega (arith, counted))
leads-some f limit calls s [] [] rest to counted is =
    let same : left_with s calls ≡ to = cc in
    subst (λ to. LeadsToEdits f limit (left_with s calls) rest to rest) same (leads-nowhere f limit (left_with s calls) rest)
leads-some f limit calls s (e ∷ edits) [] rest to counted is = absurd (omega (arith, counted))
leads-some f limit calls s (e ∷ edits) (n ∷ lines) rest to counted is =
    by_due (due_refusal f limit s calls e) refl is
    (leads-some f limit (calls + needed_calls f.most (length s) e) (samples_after s e) edits lines rest to (omega (arith, counted)))
  where
    needed : ℕ
    needed = needed_calls f.most (length s) e

    by_due : (here : Option Fault) → due_refusal f limit s calls e ≡ here
        → option_map_or (λ fault. Err (Line n fault)) here (edits_left f limit (calls + needed) (samples_after s e) edits lines) ≡ Ok to
        → (edits_left f limit (calls + needed) (samples_after s e) edits lines ≡ Ok to
        → LeadsToEdits f limit (left_with (samples_after s e) (calls + needed)) (after_listed edits lines rest) to rest)
        → LeadsToEdits f limit (left_with s calls) (after_listed (e ∷ edits) (n ∷ lines) rest) to rest
    by_due (Some fault) due same later = absurd (cc)
    by_due None due same later =
        leads-on f limit (left_with s calls) (left_with (samples_after s e) (calls + needed)) to (listed n (change e) (after_listed edits lines rest))
        (after_listed edits lines rest) rest (leads-made f limit calls s e n (after_listed edits lines rest) due) (later same)

-- a refusal among some edits is that of these edits and others after them
pub stops-some : (f : Format) (limit calls : ℕ) (s : List ℤ) (edits : List Edit) (lines : List ℕ) (rest : Listing) (fault : EditFault)
    → length edits ≡ length lines → edits_left f limit calls s edits lines ≡ Err fault
    → edits_left f limit calls s (after_listed edits lines rest).edits (after_listed edits lines rest).lines ≡ Err fault
stops-some f limit calls s [] (n ∷ lines) rest fault counted is = absurd (omega (arith, counted))
stops-some f limit calls s [] [] rest fault counted is = absurd (cc)
stops-some f limit calls s (e ∷ edits) [] rest fault counted is = absurd (omega (arith, counted))
stops-some f limit calls s (e ∷ edits) (n ∷ lines) rest fault counted is =
    by_due (due_refusal f limit s calls e) refl is
    (stops-some f limit (calls + needed_calls f.most (length s) e) (samples_after s e) edits lines rest fault (omega (arith, counted)))
  where
    needed : ℕ
    needed = needed_calls f.most (length s) e

    by_due : (here : Option Fault) → due_refusal f limit s calls e ≡ here
        → option_map_or (λ fault. Err (Line n fault)) here (edits_left f limit (calls + needed) (samples_after s e) edits lines) ≡ Err fault
        → (edits_left f limit (calls + needed) (samples_after s e) edits lines ≡ Err fault
        → edits_left f limit (calls + needed) (samples_after s e) (edits ++ rest.edits) (lines ++ rest.lines) ≡ Err fault)
        → edits_left f limit calls s (e ∷ (edits ++ rest.edits)) (n ∷ (lines ++ rest.lines)) ≡ Err fault
    by_due (Some why) due same later =
        ap (λ t. option_map_or (λ fault. Err (Line n fault)) t
        (edits_left f limit (calls + needed) (samples_after s e) (edits ++ rest.edits) (lines ++ rest.lines))) due
        ∙ same
    by_due None due same later =
        edits_left-made f limit calls s e n (edits ++ rest.edits) (lines ++ rest.lines) due ∙ later same

-- ---- the same, stated by the code's variables

-- the place of a refused edit is among those of the lines
pub stop_index : (f : Format) (limit calls : ℕ) (s : List ℤ) (given edits : List Edit) (lines : List ℕ) (stop : Stop) → given ≡ edits
    → length edits ≡ length lines → first_refusal f limit s calls 0 given ≡ Some stop → IsStopOf f limit calls 0 s edits lines stop
stop_index f limit calls s given edits lines stop same counted is =
    one_stops f limit calls 0 s edits lines stop counted (subst (λ es. first_refusal f limit s calls 0 es ≡ Some stop) same is)

pub stops_named : (f : Format) (limit calls : ℕ) (s : List ℤ) (edits : List Edit) (lines : List ℕ) (stop : Stop) (n : ℕ)
    → IsStopOf f limit calls 0 s edits lines stop → n ≡ slice_index lines stop.place → StopsAsOne f limit calls s edits lines (Line n stop.fault)
stops_named f limit calls s edits lines stop n it named =
    let place : stop.place ≡ it.index = omega (arith, it.place_is) in
    inr (it.left ∙ ap (λ k. Err (Line k stop.fault)) (sym (named ∙ ap (slice_index lines) place)))

pub made_as_one : (f : Format) (limit calls needed : ℕ) (s left : List ℤ) (given again edits : List Edit) (lines : List ℕ) → given ≡ edits → again ≡ edits
    → length edits ≡ length lines → first_refusal f limit s calls 0 given ≡ None → needed ≡ all_needed f.most s given → left ≡ all_after s again
    → edits_left f limit calls s edits lines ≡ Ok (left_with left (calls + needed))
made_as_one f limit calls needed s left given again edits lines same same_again counted none needed_is left_is =
    all_fit f limit calls 0 s edits lines counted (subst (λ es. first_refusal f limit s calls 0 es ≡ None) same none)
    ∙ ap (λ l. Ok (left_with l (calls + all_needed f.most s edits))) (sym (left_is ∙ ap (all_after s) same_again))
    ∙ ap (λ k. Ok (left_with left (calls + k))) (sym (needed_is ∙ ap (all_needed f.most s) same))

-- edits of which none is refused lack memory, if they aren't applied
pub memory_as_one : (f : Format) (limit calls due : ℕ) (s left : List ℤ) (given again edits : List Edit) (stop : Stop) (after : ℕ) → given ≡ edits
    → again ≡ edits → calls ≤ due → first_refusal f limit s due 0 given ≡ None → AreAllOrNone f limit s calls again (Err stop) left after
    → stop.fault ≡ Memory
memory_as_one f limit calls due s left given again edits stop after same same_again fewer none answer =
    ap (λ (x : Stop). x.fault) lacks.stop_is
  where
    now : first_refusal f limit s calls 0 again ≡ None
    now = none_before f limit s calls due 0 again fewer (subst (λ es. first_refusal f limit s due 0 es ≡ None) (same ∙ sym same_again) none)

    lacks : LackMemory f s calls again stop after
    lacks = subst (λ due. MatchOption due (LackMemory f s calls again stop after) (λ due. (stop ≡ due) × (after ≡ calls))) now answer.0

-- edits that are taken out lead to those after them
pub at_once-made : (f g : Format) (limit most : ℕ) (script ahead rest : Listing) (s reached left : List ℤ) (before due needed after : ℕ)
    (edits : List Edit) (lines : List ℕ) → g ≡ f → most ≡ limit → ahead ≡ after_listed edits lines rest → length edits ≡ length lines
    → edits_left g most due reached edits lines ≡ Ok (left_with left (due + needed)) → due + needed ≡ after
    → LeadsToEdits f limit (left_with s before) script (left_with reached due) ahead
    → LeadsToEdits f limit (left_with s before) script (left_with left after) rest
at_once-made f g limit most script ahead rest s reached left before due needed after edits lines format limited split counted made sum so_far =
    leads-on f limit (left_with s before) (left_with reached due) (left_with left after) script ahead rest so_far
    (subst (λ l. LeadsToEdits f limit (left_with reached due) l (left_with left after) rest) (sym split)
    (leads-some f limit due reached edits lines rest (left_with left after) counted
    (subst (λ limit. edits_left f limit due reached edits lines ≡ Ok (left_with left after)) limited
    (subst (λ f. edits_left f most due reached edits lines ≡ Ok (left_with left after)) format
    (made ∙ ap (λ k. Ok (left_with left k)) sum)))))

-- edits that are taken out aren't applied
pub at_once-stops : (f g : Format) (limit most : ℕ) (script ahead rest : Listing) (s reached : List ℤ) (before due : ℕ) (edits : List Edit)
    (lines : List ℕ) (fault : EditFault) → g ≡ f → most ≡ limit → ahead ≡ after_listed edits lines rest → length edits ≡ length lines
    → StopsAsOne g most due reached edits lines fault → LeadsToEdits f limit (left_with s before) script (left_with reached due) ahead
    → (fault ≡ Plain Memory) ⊎ StopsEditing f limit before s script.edits script.lines fault
at_once-stops f g limit most script ahead rest s reached before due edits lines fault format limited split counted (inl memory) so_far = inl memory
at_once-stops f g limit most script ahead rest s reached before due edits lines fault format limited split counted (inr refused) so_far =
    inr (leads-stop f limit (left_with s before) (left_with reached due) script ahead fault so_far
    (subst (λ (l : Listing). StopsEditing f limit due reached l.edits l.lines fault) (sym split)
    (misfit fault (stops-some f limit due reached edits lines rest fault counted
    (subst (λ limit. edits_left f limit due reached edits lines ≡ Err fault) limited
    (subst (λ f. edits_left f most due reached edits lines ≡ Err fault) format refused))))))

-- no edit is ahead any more
pub at_once-all : (f : Format) (limit before due : ℕ) (script : Listing) (s reached : List ℤ) (ahead : EditsAhead) → is_some ahead.next ≡ false
    → IsReady ahead → LeadsToEdits f limit (left_with s before) script (left_with reached due) (left_in ahead)
    → edits_left f limit before s script.edits script.lines ≡ Ok (left_with reached due)
at_once-all f limit before due script s reached ahead none ready so_far =
    so_far.same ∙ ap (λ (l : Listing). edits_left f limit due reached l.edits l.lines) (empty ahead.next none ready)
  where
    empty : (next : Option NextEdit) → is_some next ≡ false → MatchOption next (behind ahead ≡ no_edits) (λ next. ⊤)
        → with_next next (behind ahead) ≡ no_edits
    empty None none ready = ready
    empty (Some next) none ready = absurd (cc)

-- an edit that is next is ahead
pub some_ahead : (next : Option NextEdit) (rest : Listing) → is_some next ≡ true → 0 < length (with_next next rest).edits
some_ahead None rest some = absurd (cc)
some_ahead (Some next) rest some = omega arith

-- one edit more was taken out, or none was left
pub taken_more : (start old new : EditsAhead) (from to : Script) (more : Bool)
    → left_in start ≡ after_listed from.edits.items from.lines.items (left_in old) → length from.edits.items ≡ length from.lines.items
    → TakesNext old from new to more → TakesSome start new to
taken_more start old new from to more so_far counted takes = record {
  same = so_far ∙ takes.same;
  counted = takes.counted counted;
  fewer = λ some. by_more more refl some;
}
  where
    by_more : (b : Bool) → more ≡ b → 0 < length (left_in start).edits → length (left_in new).edits < length (left_in start).edits
    by_more true is some = omega (
      arith,
      takes.fewer is,
      ap (λ (l : Listing). length l.edits) so_far,
      length-append from.edits.items (left_in old).edits,
    )
    by_more false is some = omega (arith, some, ap (λ (l : Listing). length l.edits) (takes.none is))
