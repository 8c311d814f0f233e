-- Why a source was not read whole.
use Rattle.std.proofs.Common.{◌≡◌, ℕ, Option, Result, Err, List, IfErr, ap, ◌∙◌, sym, subst}
use Rattle.aec_params.specs.declared.fault.Fault.{Fault}
use Rattle.aec_params.specs.declared.fault.Fault.TheVariants.{Memory}
use Rattle.aec_engine.specs.Transfers.{RefusesIntake, no_memory}

-- a growth that is refused
pub refused_by_memory : {X : Type 0} (r : Result X Fault) (fault f : Fault) (before after : Option (List ℕ)) (failures limit : ℕ)
    → r ≡ Err fault → fault ≡ f → f ≡ Memory → IfErr r (λ f. RefusesIntake before after failures limit f)
refused_by_memory {X} r fault f before after failures limit is same memory =
    let P : Result X Fault → Type 0 = λ r. IfErr r (λ f. RefusesIntake before after failures limit f) in
    subst P (sym (is ∙ ap Err (same ∙ memory))) no_memory
