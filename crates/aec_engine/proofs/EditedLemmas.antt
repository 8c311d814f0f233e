-- What the parts of the engine that carries out scripts return.
use Rattle.std.proofs.Common.{◌≡◌, ℕ, ◌≤◌, ⊎_elim, false, Option, Some, None, Result, Err, IfErr, List, length, refl, sym, ap, ◌∙◌, subst}
use Rattle.std.specs.Prelude.{option_map}
use Rattle.std.specs.Option.{option_or}
use Rattle.aec_params.specs.declared.fault.Fault.{Fault}
use Rattle.aec_params.specs.declared.fault.Fault.TheVariants.{Script}
use Rattle.aec_engine.specs.Scripts.{listing_of}
use Rattle.aec_engine.specs.Transfers.{input_of, IsTakenWhole, RefusesIntake}
use Rattle.aec_engine.specs.Editing.{script_refusal}
use Rattle.aec_engine.specs.EditingSteps.{GaveScript, RefusesScript, no_memory, no_edits}
use Rattle.aec_engine.proofs.OutputLemmas.{taking, gave_whole, none_refused, intake_given}

-- ---- the script

-- a script whose bytes were taken whole is refused only for its first bad line
refusal-whole : (limit : ℕ) (bytes : List ℕ) → length bytes ≤ limit
    → script_refusal limit (input_of bytes false) ≡ option_map (λ n. Script n) (listing_of bytes).bad
refusal-whole limit bytes within =
    ap (λ t. option_or t (option_map (λ n. Script n) (listing_of bytes).bad)) (none_refused limit bytes within)

pub gave_script : (before after : Option (List ℕ)) (failures limit most : ℕ) (bytes text : List ℕ) → limit ≡ most → text ≡ bytes
    → IsTakenWhole before after failures limit bytes → (listing_of text).bad ≡ None
    → GaveScript (taking before after failures) most (listing_of bytes)
gave_script before after failures limit most bytes text limited same taken known =
    subst (λ most. GaveScript (taking before after failures) most (listing_of bytes)) limited (record {
      script = input_of bytes false;
      gave = gave_whole before after failures limit bytes taken;
      sound = refusal-whole limit bytes taken.within
          ∙ ap (option_map (λ n. Script n)) (subst (λ text. (listing_of text).bad ≡ None) same known);
      read_is = refl;
    })

-- no script was read: its source was not read whole, or it has a bad line
pub refuses_intake : {X : Type 0} (r : Result X Fault) (fault f : Fault) (before after : Option (List ℕ)) (failures limit most : ℕ) → r ≡ Err fault → fault ≡ f
    → limit ≡ most → RefusesIntake before after failures limit f → IfErr r (λ e. RefusesScript (taking before after failures) most e)
refuses_intake {X} r fault f before after failures limit most is same limited refuses =
    let P : Result X Fault → Type 0 = λ r. IfErr r (λ e. RefusesScript (taking before after failures) most e) in
    subst P (sym (is ∙ ap Err same)) (subst (λ most. RefusesScript (taking before after failures) most f) limited
    (⊎_elim (λ memory. subst (RefusesScript (taking before after failures) limit) (sym memory) no_memory)
    (λ found. no_edits found.0 f found.1 (ap (λ t. option_or t (option_map (λ n. Script n) (listing_of found.0.bytes).bad)) found.2))
    (intake_given before after failures limit f refuses)))

pub refuses_script : {X : Type 0} (r : Result X Fault) (fault f : Fault) (before after : Option (List ℕ)) (failures limit most : ℕ)
    (bytes text : List ℕ) → r ≡ Err fault → fault ≡ f → limit ≡ most → text ≡ bytes → IsTakenWhole before after failures limit bytes
    → (n : ℕ) × ((listing_of text).bad ≡ Some n) × (f ≡ Script n) → IfErr r (λ e. RefusesScript (taking before after failures) most e)
refuses_script {X} r fault f before after failures limit most bytes text is same limited text_is taken bad =
    let listed : option_map (λ n. Script n) (listing_of bytes).bad ≡ Some (Script bad.0) =
    ap (option_map (λ n. Script n)) (subst (λ text. (listing_of text).bad ≡ Some bad.0) text_is bad.1) in
    let P : Result X Fault → Type 0 = λ r. IfErr r (λ e. RefusesScript (taking before after failures) most e) in
    subst P (sym (is ∙ ap Err (same ∙ bad.2))) (subst (λ most. RefusesScript (taking before after failures) most (Script bad.0)) limited
    (no_edits (input_of bytes false) (Script bad.0) (gave_whole before after failures limit bytes taken)
    (refusal-whole limit bytes taken.within ∙ listed)))
