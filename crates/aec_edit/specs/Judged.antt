-- For proofs alone: no public contract cites this file.
-- What holds for values that were judged, and what an edit does to a workspace. The contract of
-- `apply` cites `due_refusal` and what `Applies` names instead.
use Rattle.std.specs.Prelude.{◌≡◌, ◌≢◌, ℕ, ◌+◌, ◌≤◌, None, Result, IfErr, List, length, ℤ}
use Rattle.aec_params.specs.declared.fault.Fault.{Fault}
use Rattle.aec_params.specs.declared.fault.Fault.TheVariants.{Memory}
use Rattle.aec_params.specs.declared.edit.Edit.{Edit}
use Rattle.aec_bits.specs.Codec.{Format, AreHeld}
use Rattle.aec_bits.specs.Refusals.{growth_refusal, values_refusal}
use Rattle.aec_edit.specs.Workspace.{Contents}
use Rattle.aec_edit.specs.Steps.{Applies}
use Rattle.aec_edit.specs.Unchanged.{KeepsRules}

-- values that are samples
pub record AreValues (f : Format) (values : List ℤ) : Type 0 where
  pub fit : values_refusal f values ≡ None
  pub held : AreHeld f values

-- values that can be added to the samples s: the limit has room for them
pub record CanCome (f : Format) (limit : ℕ) (s values : List ℤ) : Type 0 where
  pub fit : growth_refusal f limit s values ≡ None
  pub few : length s + length values ≤ limit
  pub held : AreHeld f values

-- an edit and all that it does to a workspace; nothing has changed if it is refused with another
-- fault than `Memory`
pub record MakesEdit {C : Type 0} (format_of : C → Format) (called read : C → ℕ) (e : Edit) (r : Result ℕ Fault)
    (old new : Contents C) : Type 0 where
  pub applies : Applies (format_of old.codec) old.limit old.samples (called old.codec) (read old.codec) e r new.samples
      (called new.codec) (read new.codec)
  pub rules : KeepsRules format_of old new
  pub refused : IfErr r (λ fault. fault ≢ Memory → new ≡ old)
