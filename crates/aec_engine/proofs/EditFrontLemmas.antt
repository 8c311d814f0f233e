-- A script or a coded input that is longer than its limit is judged by its front.
use Rattle.std.proofs.Common.{◌≡◌, ◌↔◌, ℕ, ◌<◌, Option, Some, None, Result, Err, List, ◌++◌, length, refl, sym, ap, subst}
use Rattle.std.specs.Prelude.{option_map}
use Rattle.std.specs.Option.{option_or}
use Rattle.aec_params.specs.declared.settings.Settings.{Settings}
use Rattle.aec_params.specs.declared.fault.Fault.{Fault}
use Rattle.aec_params.specs.declared.fault.Fault.TheVariants.{Script}
use Rattle.aec_params.specs.Limits.{Caps}
use Rattle.aec_engine.specs.declared.scripts.EditFault.{EditFault}
use Rattle.aec_engine.specs.declared.scripts.EditFault.TheVariants.{Plain}
use Rattle.aec_engine.specs.Transfers.{Input, input_of, are_past}
use Rattle.aec_engine.specs.Output.{intake_refusal, not_taken}
use Rattle.aec_engine.specs.Scripts.{listing_of}
use Rattle.aec_engine.specs.Editing.{script_refusal, Recoded, IsEdited, no_script, not_decoded, not_edited, edited}
use Rattle.aec_engine.specs.Laws.{IsJudgedByFront, IsJudgedWhole}
use Rattle.aec_engine.proofs.AnswerLemmas.{only-not_taken}
use Rattle.aec_engine.proofs.FrontLemmas.{judged_by_intake, judged_by_limit}
use Rattle.aec_engine.proofs.OneEditLemmas.{only-no_script}

-- ---- scripts

script_refusal-intake : (limit : ℕ) (script : Input) (fault : Fault) → intake_refusal limit script ≡ Some fault → script_refusal limit script ≡ Some fault
script_refusal-intake limit script fault is = ap (λ t. option_or t (option_map (λ n. Script n) (listing_of script.bytes).bad)) is

-- the refusal of a script is the only answer
judged_no_script : (s : Settings) (caps : Caps) (count : Option ℕ) (script input : Input) (fault : Fault) (answer : Result Recoded EditFault)
    → script_refusal caps.bytes script ≡ Some fault → IsEdited s caps count script input answer ↔ (answer ≡ Err (Plain fault))
judged_no_script s caps count script input fault answer refused = (
  λ answered. only-no_script s caps count script input fault answer refused answered,
  λ is. subst (IsEdited s caps count script input) (sym is) (no_script fault refused),
)

pub scripts-front : (s : Settings) (caps : Caps) (count : Option ℕ) (input : Input) (front rest : List ℕ) → caps.bytes < length front
    → IsJudgedByFront (λ script. IsEdited s caps count script input) front rest
scripts-front s caps count input front rest past =
    judged_by_intake Plain (λ script. IsEdited s caps count script input) caps.bytes front rest past
    (λ script fault answer refused. judged_no_script s caps count script input fault answer (script_refusal-intake caps.bytes script fault refused))

-- ---- coded inputs

only-untaken : (s : Settings) (caps : Caps) (count : Option ℕ) (script input : Input) (fault : Fault) (answer : Result Recoded EditFault)
    → script_refusal caps.bytes script ≡ None → intake_refusal caps.bytes input ≡ Some fault → IsEdited s caps count script input answer
    → answer ≡ Err (Plain fault)
only-untaken s caps count script input fault answer sound refused (no_script f is) = absurd (cc)
only-untaken s caps count script input fault answer sound refused (not_decoded f also fails) =
    let same : Err f ≡ Err fault = only-not_taken s caps count input fault (Err f) refused fails in
    let is : f ≡ fault = cc in ap (λ f. Err (Plain f)) is
only-untaken s caps count script input fault answer sound refused (not_edited samples f also read stops) = let taken = read.taken in absurd (cc)
only-untaken s caps count script input fault answer sound refused (edited samples left also read leaves) = let taken = read.taken in absurd (cc)

pub editing-front : (s : Settings) (caps : Caps) (count : Option ℕ) (script : Input) (front rest : List ℕ) → caps.bytes < length front
    → IsJudgedByFront (IsEdited s caps count script) front rest
editing-front s caps count script front rest past = by_script (script_refusal caps.bytes script) refl
  where
    by_script : (t : Option Fault) → script_refusal caps.bytes script ≡ t → IsJudgedByFront (IsEdited s caps count script) front rest
    by_script (Some fault) refused = record {
      fault = Plain fault;
      of_front = λ failed answer. judged_no_script s caps count script (input_of front failed) fault answer refused;
      of_whole = λ failed answer. judged_no_script s caps count script (input_of (front ++ rest) failed) fault answer refused;
    }
    by_script None sound = judged_by_intake Plain (IsEdited s caps count script) caps.bytes front rest past (λ input fault answer refused. (
      λ answered. only-untaken s caps count script input fault answer sound refused answered,
      λ is. subst (IsEdited s caps count script input) (sym is) (not_decoded fault sound (not_taken fault refused)),
    ))

-- ---- what a source gave

pub editing-whole : (s : Settings) (caps : Caps) (count : Option ℕ) (script : Input) → IsJudgedWhole (IsEdited s caps count script) (are_past caps.bytes)
editing-whole s caps count script =
    judged_by_limit (IsEdited s caps count script) caps.bytes (λ front rest past. editing-front s caps count script front rest past)

pub scripts-whole : (s : Settings) (caps : Caps) (count : Option ℕ) (input : Input)
    → IsJudgedWhole (λ script. IsEdited s caps count script input) (are_past caps.bytes)
scripts-whole s caps count input =
    judged_by_limit (λ script. IsEdited s caps count script input) caps.bytes (λ front rest past. scripts-front s caps count input front rest past)
