-- What is due for a list of edits, if another number of calls came before.
use Rattle.std.proofs.Common.{◌≡◌, ℕ, ◌+◌, ◌-◌, ◌^◌, ◌≤◌, Bool, true, false, cond, Option, Some, None, List, [], ◌∷◌, length, ℤ, refl, ap, ◌∙◌, arith, ltb}
use Rattle.std.specs.Option.{option_or}
use Rattle.std.proofs.lemmas.Bool.{ltb-false}
use Rattle.aec_params.specs.declared.fault.Fault.{Fault}
use Rattle.aec_params.specs.declared.fault.Fault.TheVariants.{Spent}
use Rattle.aec_params.specs.declared.edit.Edit.{Edit}
use Rattle.aec_params.specs.Edits.{samples_after, needed_calls}
use Rattle.aec_bits.specs.Codec.{Format}
use Rattle.aec_bits.specs.Refusals.{refusal_of}
use Rattle.aec_edit.specs.declared.outcome.Stop.{Stop}
use Rattle.aec_edit.specs.Calls.{want_of_calls, due_refusal}
use Rattle.aec_edit.specs.Batches.{stop_or, first_refusal}
use Rattle.aec_edit.proofs.CallLemmas.{calls_left}

-- neither the edit's own refusal nor `Spent` is due
no_refusal : (x : Option Fault) (b : Bool) → option_or x (cond b (Some Spent) None) ≡ None → (x ≡ None) × (b ≡ false)
no_refusal None false h = (refl, refl)
no_refusal None true h = cc
no_refusal (Some fault) b h = cc

-- an edit for which nothing is due is not refused after fewer calls
pub due_before : (f : Format) (limit : ℕ) (s : List ℤ) (calls due : ℕ) (e : Edit) → calls ≤ due → due_refusal f limit s due e ≡ None
    → due_refusal f limit s calls e ≡ None
due_before f limit s calls due e fewer none =
    let both = no_refusal (refusal_of f limit s e) (ltb (2 ^ 64 - 1 - due) (needed_calls f.most (length s) e)) none in
    let left = ltb-false (2 ^ 64 - 1 - due) (needed_calls f.most (length s) e) both.1 in
    ap (λ x. option_or x (want_of_calls calls (needed_calls f.most (length s) e))) both.0
    ∙ calls_left calls (needed_calls f.most (length s) e) (omega (arith, left, fewer))

-- nothing is due for an edit and for those after it
pub none_due : (place : ℕ) (here : Option Fault) (later : Option Stop) → stop_or place here later ≡ None → (here ≡ None) × (later ≡ None)
none_due place None later none = (refl, none)
none_due place (Some fault) later none = absurd (cc)

-- edits of which none is refused are not refused after fewer calls
pub none_before : (f : Format) (limit : ℕ) (s : List ℤ) (calls due place : ℕ) (edits : List Edit) → calls ≤ due
    → first_refusal f limit s due place edits ≡ None → first_refusal f limit s calls place edits ≡ None
none_before f limit s calls due place [] fewer none = refl
none_before f limit s calls due place (e ∷ edits) fewer none =
    let both = none_due place (due_refusal f limit s due e)
    (first_refusal f limit (samples_after s e) (due + needed_calls f.most (length s) e) (place + 1) edits) none in
    ap (λ here. stop_or place here (first_refusal f limit (samples_after s e) (calls + needed_calls f.most (length s) e) (place + 1) edits))
    (due_before f limit s calls due e fewer both.0)
    ∙ none_before f limit (samples_after s e) (calls + needed_calls f.most (length s) e) (due + needed_calls f.most (length s) e) (place + 1) edits
    (omega (arith, fewer)) both.1
