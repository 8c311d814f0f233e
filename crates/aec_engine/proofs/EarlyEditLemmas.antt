-- Edits that are made on the samples loaded so far, before the samples after them are loaded.
use Rattle.std.proofs.Common.{◌≡◌, inr, ℕ, ◌+◌, ◌-◌, ◌^◌, ◌<◌, ◌≤◌, if◌then◌else◌, Option, Some, None, ℤ, List, ◌++◌, length, refl, sym, ap, ap₂, ◌∙◌, subst, arith}
use Rattle.std.specs.Prelude.{MatchOption}
use Rattle.std.specs.Option.{option_or}
use Rattle.std.proofs.lemmas.Bool.{le-ltb}
use Rattle.aec_params.specs.declared.fault.Fault.{Fault}
use Rattle.aec_params.specs.declared.fault.Fault.TheVariants.{Spent}
use Rattle.aec_params.specs.declared.edit.Edit.{Edit}
use Rattle.aec_params.specs.declared.edit.Edit.TheVariants.{Overwrite, Append, Truncate, Insert, Remove}
use Rattle.aec_params.specs.Edits.{samples_after, needed_calls}
use Rattle.aec_params.specs.Limits.{most_samples}
use Rattle.aec_bits.specs.Codec.{Format}
use Rattle.aec_bits.specs.Refusals.{refusal_of}
use Rattle.aec_edit.specs.Calls.{due_refusal, want_of_calls}
use Rattle.aec_edit.specs.Early.{IsInside}
use Rattle.aec_edit.specs.Steps.{LacksMemory, IsAccepted, IsRefused}
use Rattle.aec_edit.proofs.EarlyLemmas.{samples_after-inside, length-inside, needed_calls-inside, refusal_of-inside}
use Rattle.aec_engine.specs.declared.scripts.EditFault.{EditFault}
use Rattle.aec_engine.specs.declared.scripts.EditFault.TheVariants.{Line}
use Rattle.aec_engine.specs.Scripts.{change, Listing, listed}
use Rattle.aec_engine.specs.Editing.{Left, left_with}
use Rattle.aec_engine.specs.EditingSteps as steps
use Rattle.aec_engine.specs.EditingSteps.{StopsEditing, misfit}
use Rattle.aec_engine.specs.EarlyEdits.{LeadsToEdits, CarriesEarly, StopsEarly}
use Rattle.aec_engine.proofs.CallLemmas.{touched-le}
use Rattle.aec_engine.proofs.EditingLemmas.{edits_left-made, next_stops}

-- ---- edits that lead to others

pub leads-nowhere : (f : Format) (limit : ℕ) (from : Left) (script : Listing) → LeadsToEdits f limit from script from script
leads-nowhere f limit from script = record { same = refl; lacks = λ line at. at }

pub leads-on : (f : Format) (limit : ℕ) (a b c : Left) (es gs hs : Listing) → LeadsToEdits f limit a es b gs → LeadsToEdits f limit b gs c hs
    → LeadsToEdits f limit a es c hs
leads-on f limit a b c es gs hs first second = record {
  same = first.same ∙ second.same;
  lacks = λ line at. first.lacks line (second.lacks line at);
}

-- an edit that is made leads to the edits after it
pub leads-made : (f : Format) (limit calls : ℕ) (s : List ℤ) (e : Edit) (n : ℕ) (rest : Listing) → due_refusal f limit s calls e ≡ None
    → LeadsToEdits f limit (left_with s calls) (listed n (change e) rest) (left_with (samples_after s e) (calls + needed_calls f.most (length s) e)) rest
leads-made f limit calls s e n rest fits = record {
  same = edits_left-made f limit calls s e n rest.edits rest.lines fits;
  lacks = λ line at. (fits, inr at);
}

pub leads-stop : (f : Format) (limit : ℕ) (a b : Left) (es gs : Listing) (fault : EditFault) → LeadsToEdits f limit a es b gs
    → StopsEditing f limit b.calls b.samples gs.edits gs.lines fault → StopsEditing f limit a.calls a.samples es.edits es.lines fault
leads-stop f limit a b es gs fault leads (misfit why is) = misfit why (leads.same ∙ is)
leads-stop f limit a b es gs fault leads (steps.lacks_memory line at) = steps.lacks_memory line (leads.lacks line at)

-- ---- one edit

-- an overwrite inside some samples calls the coder at most once for each of them
pub needed-inside : (n old : ℕ) (e : Edit) → 0 < n → IsInside old e → needed_calls n old e ≤ old
needed-inside n old (Overwrite first values) some inside = omega (arith, touched-le n first (length values) some, inside)
needed-inside n old (Append values) some inside = absurd inside
needed-inside n old (Truncate count) some inside = absurd inside
needed-inside n old (Insert first values) some inside = absurd inside
needed-inside n old (Remove first len) some inside = absurd inside

enough : (calls needed : ℕ) → calls + needed ≤ 2 ^ 64 - 1 → want_of_calls calls needed ≡ None
enough calls needed few = ap (λ t. if t then Some Spent else None) (le-ltb (2 ^ 64 - 1 - calls) needed (omega (arith, few)))

-- if enough calls are left, only the edit's own refusal is due, and more samples after these don't
-- change it
due-inside : (f : Format) (limit due : ℕ) (s rest : List ℤ) (e : Edit) → IsInside (length s) e → due + needed_calls f.most (length s) e ≤ 2 ^ 64 - 1
    → due_refusal f limit (s ++ rest) due e ≡ option_or (refusal_of f limit s e) None
due-inside f limit due s rest e inside few =
    ap₂ option_or (refusal_of-inside f limit s rest e inside)
    (ap (want_of_calls due) (needed_calls-inside f.most (length s) (length (s ++ rest)) e inside) ∙ enough due (needed_calls f.most (length s) e) few)

pub due-here : (f : Format) (limit calls : ℕ) (s : List ℤ) (e : Edit) → calls + needed_calls f.most (length s) e ≤ 2 ^ 64 - 1
    → due_refusal f limit s calls e ≡ option_or (refusal_of f limit s e) None
due-here f limit calls s e few = ap (option_or (refusal_of f limit s e)) (enough calls (needed_calls f.most (length s) e) few)

-- ---- edits one after the other

-- one more overwrite inside the loaded samples was made, and the coder had been called fewer than
-- 2^62 times before
pub early-made : (f g : Format) (limit most : ℕ) (script ahead rest : Listing) (s reached left : List ℤ) (before calls coded after : ℕ)
    (e : Edit) (n : ℕ) → g ≡ f → most ≡ limit → ahead ≡ listed n (change e) rest → 0 < f.most → calls < 2 ^ 62 → length s ≤ most_samples
    → IsInside (length reached) e → IsAccepted g most reached calls e coded after → left ≡ samples_after reached e
    → CarriesEarly f limit script s before ahead reached calls → CarriesEarly f limit script s before rest left after
early-made f g limit most script ahead rest s reached left before calls coded after e n format limited next some far small inside made is so_far = record {
  made = so_far.made + needed;
  counted = omega (arith, accepted.calls_are, accepted.coded_is, so_far.counted);
  few = inr (omega (arith, accepted.calls_are, accepted.coded_is, far, few));
  len = ap length is ∙ length-inside reached e inside ∙ so_far.len;
  leads = λ more due low. leads-on f limit (left_with (s ++ more) due) (left_with (reached ++ more) (due + so_far.made)) _ script ahead rest
      (so_far.leads more due low) (one more (due + so_far.made) _ (omega (arith, low, far, so_far.counted, few)) (omega arith));
}
  where
    accepted : IsAccepted f limit reached calls e coded after
    accepted = subst (λ limit. IsAccepted f limit reached calls e coded after) limited
        (subst (λ f. IsAccepted f most reached calls e coded after) format made)

    needed : ℕ
    needed = needed_calls f.most (length reached) e

    few : needed ≤ most_samples
    few = omega (arith, needed-inside f.most (length reached) e some inside, so_far.len, small)

    fits : option_or (refusal_of f limit reached e) None ≡ None
    fits = sym (due-here f limit calls reached e (omega (arith, far, few))) ∙ accepted.fits

    one : (more : List ℤ) (at k : ℕ) → at + needed ≤ 2 ^ 64 - 1 → at + needed ≡ k
        → LeadsToEdits f limit (left_with (reached ++ more) at) ahead (left_with (left ++ more) k) rest
    one more at k room reaches =
        subst (λ script. LeadsToEdits f limit (left_with (reached ++ more) at) script (left_with (left ++ more) k) rest) (sym next)
        (subst (λ to. LeadsToEdits f limit (left_with (reached ++ more) at) (listed n (change e) rest) to rest)
        (ap₂ left_with (samples_after-inside reached more e inside ∙ ap (λ l. l ++ more) (sym is))
        (ap (λ n. at + n) (needed_calls-inside f.most (length reached) (length (reached ++ more)) e inside) ∙ reaches))
        (leads-made f limit at (reached ++ more) e n rest (due-inside f limit at reached more e inside room ∙ fits)))

-- the next overwrite inside the loaded samples was refused
pub early-stops : (f g : Format) (limit most : ℕ) (script ahead rest : Listing) (s reached : List ℤ) (before calls after : ℕ)
    (e : Edit) (n : ℕ) (fault : Fault) → g ≡ f → most ≡ limit → ahead ≡ listed n (change e) rest → 0 < f.most → calls < 2 ^ 62
    → length s ≤ most_samples → IsInside (length reached) e → IsRefused g most reached calls e fault after
    → CarriesEarly f limit script s before ahead reached calls → StopsEarly f limit script s (Line n fault)
early-stops f g limit most script ahead rest s reached before calls after e n fault format limited next some far small inside not_made so_far more due low =
    leads-stop f limit (left_with (s ++ more) due) (left_with (reached ++ more) at) script ahead (Line n fault) (so_far.leads more due low)
    (subst (λ script. StopsEditing f limit at (reached ++ more) script.edits script.lines (Line n fault)) (sym next)
    (next_stops f limit at at (reached ++ more) e n fault rest.edits rest.lines behind))
  where
    refused : IsRefused f limit reached calls e fault after
    refused = subst (λ limit. IsRefused f limit reached calls e fault after) limited
        (subst (λ f. IsRefused f most reached calls e fault after) format not_made)

    at : ℕ
    at = due + so_far.made

    needed : ℕ
    needed = needed_calls f.most (length reached) e

    few : needed ≤ most_samples
    few = omega (arith, needed-inside f.most (length reached) e some inside, so_far.len, small)

    lacking : (t : Option Fault) → MatchOption t (LacksMemory needed calls fault after) (λ due. (fault ≡ due) × (after ≡ calls))
        → MatchOption t (LacksMemory (needed_calls f.most (length (reached ++ more)) e) at fault at) (λ due. (fault ≡ due) × (at ≡ at))
    lacking (Some why) named = (named.0, refl)
    lacking None lacks = record {
      fault_is = lacks.fault_is;
      some = subst (λ k. 0 < k) (sym (needed_calls-inside f.most (length reached) (length (reached ++ more)) e inside)) lacks.some;
      stays = omega arith;
      few = omega arith;
    }

    behind : IsRefused f limit (reached ++ more) at e fault at
    behind = lacking (due_refusal f limit (reached ++ more) at e)
        (subst (λ due. MatchOption due (LacksMemory needed calls fault after) (λ due. (fault ≡ due) × (after ≡ calls)))
        (due-here f limit calls reached e (omega (arith, far, few))
        ∙ sym (due-inside f limit at reached more e inside (omega (arith, low, far, so_far.counted, few)))) refused)

-- ---- edits on all samples

-- one more edit was made
pub rest-made : (f g : Format) (limit most : ℕ) (script ahead rest : Listing) (s reached left : List ℤ) (before calls coded after : ℕ)
    (e : Edit) (n : ℕ) → g ≡ f → most ≡ limit → ahead ≡ listed n (change e) rest → IsAccepted g most reached calls e coded after
    → left ≡ samples_after reached e → LeadsToEdits f limit (left_with s before) script (left_with reached calls) ahead
    → LeadsToEdits f limit (left_with s before) script (left_with left after) rest
rest-made f g limit most script ahead rest s reached left before calls coded after e n format limited next made is so_far =
    leads-on f limit (left_with s before) (left_with reached calls) (left_with left after) script ahead rest so_far
    (subst (λ script. LeadsToEdits f limit (left_with reached calls) script (left_with left after) rest) (sym next)
    (subst (λ to. LeadsToEdits f limit (left_with reached calls) (listed n (change e) rest) to rest)
    (ap₂ left_with (sym is) (omega (arith, accepted.calls_are, accepted.coded_is)))
    (leads-made f limit calls reached e n rest accepted.fits)))
  where
    accepted : IsAccepted f limit reached calls e coded after
    accepted = subst (λ limit. IsAccepted f limit reached calls e coded after) limited
        (subst (λ f. IsAccepted f most reached calls e coded after) format made)

-- the next edit was refused
pub rest-stops : (f g : Format) (limit most : ℕ) (script ahead rest : Listing) (s reached : List ℤ) (before calls after : ℕ)
    (e : Edit) (n : ℕ) (fault : Fault) → g ≡ f → most ≡ limit → ahead ≡ listed n (change e) rest
    → IsRefused g most reached calls e fault after → LeadsToEdits f limit (left_with s before) script (left_with reached calls) ahead
    → StopsEditing f limit before s script.edits script.lines (Line n fault)
rest-stops f g limit most script ahead rest s reached before calls after e n fault format limited next refused so_far =
    leads-stop f limit (left_with s before) (left_with reached calls) script ahead (Line n fault) so_far
    (subst (λ script. StopsEditing f limit calls reached script.edits script.lines (Line n fault)) (sym next)
    (next_stops f limit calls after reached e n fault rest.edits rest.lines
    (subst (λ limit. IsRefused f limit reached calls e fault after) limited
    (subst (λ f. IsRefused f most reached calls e fault after) format refused))))
