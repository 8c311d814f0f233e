-- The outcomes of a list of edits that ends with the first refused one.
use Rattle.std.specs.Prelude.{◌≡◌, ℕ, ⊤, Ok, Err, Result, List, [], ◌∷◌, ◌++◌, length, ℤ}
use Rattle.aec_params.specs.declared.fault.Fault.{Fault}
use Rattle.aec_params.specs.declared.edit.Edit.{Edit}
use Rattle.aec_bits.specs.Codec.{Format}
use Rattle.aec_edit.specs.declared.outcome.Outcome.{Outcome}
use Rattle.aec_edit.specs.declared.outcome.Outcome.TheVariants.{Done, Refused}
use Rattle.aec_edit.specs.declared.outcome.Stop.{Stop}
use Rattle.aec_edit.specs.Runs.{HasRun}

-- each of these edits was applied
abbrev pub AreDone : List Outcome → Type 0
AreDone [] = ⊤
AreDone (Done coded ∷ outcomes) = AreDone outcomes
AreDone (Refused fault ∷ outcomes) = ⊥

-- what edits have done from the samples s and the codec's counts of calls and reads, with the
-- samples that are left and the counts after them: all were applied; or one was refused, at its
-- place counted from 0, all before it were applied, and none after it was tried (by cases on the
-- list of edits, cut at the refused one, where the code has a loop)
pub data StopsAtRefusal (f : Format) (limit : ℕ) (s : List ℤ) (calls reads : ℕ) (edits : List Edit)
    : Result (Unit {0}) Stop → List ℤ → ℕ → ℕ → Type 0 where
  all_made : (done : List Outcome) (left : List ℤ) (calls_after reads_after : ℕ) → AreDone done
      → HasRun f limit s calls reads edits done left calls_after reads_after
      → StopsAtRefusal f limit s calls reads edits (Ok tt) left calls_after reads_after
  stopped : (before : List Edit) (edit : Edit) (behind : List Edit) (done : List Outcome) (fault : Fault)
      (left : List ℤ) (calls_after reads_after : ℕ)
      → edits ≡ before ++ (edit ∷ behind) → AreDone done
      → HasRun f limit s calls reads (before ++ (edit ∷ [])) (done ++ (Refused fault ∷ [])) left calls_after reads_after
      → StopsAtRefusal f limit s calls reads edits
      (Err (record { place = length before; fault = fault })) left calls_after reads_after
