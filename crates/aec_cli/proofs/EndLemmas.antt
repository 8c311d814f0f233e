-- A run that is done has begun its sink.
use Rattle.std.proofs.Common.{◌≡◌, ◌<◌, ℕ, Bool, List, Option, Result, Ok, Err, IfOk, sym, subst, arith}
use Rattle.std.specs.Prelude.{MatchResult, is_ok}
use Rattle.aec_params.specs.declared.settings.Settings.{Settings}
use Rattle.aec_params.specs.declared.fault.Fault.{Fault}
use Rattle.aec_params.specs.Limits.{Caps}
use Rattle.aec_bits.specs.Devices.{counted}
use Rattle.aec_engine.specs.declared.scripts.EditFault.{EditFault}
use Rattle.aec_cli.specs.declared.done.Done.{Done}
use Rattle.aec_cli.specs.declared.failure.Failure.{Failure}
use Rattle.aec_cli.specs.Ends.{HasSynced}
use Rattle.aec_engine.specs.Transfers.{Input, Taking, Putting, answer_by, Leaves, written, refused, no_answer, not_written}
use Rattle.aec_engine.specs.Editing as editing
use Rattle.aec_engine.specs.Editing.{LeavesRecoded, LeavesEdited}

-- a count that was increased isn't 0
counted-pos : (n m : ℕ) → m ≡ counted n → 0 < m
counted-pos n m is = subst (λ k. 0 < k) (sym is) (omega (arith))

pub begun-Leaves : (answers : Input → Result (List ℕ) Fault → Type 0) (source : Taking) (enough : List ℕ → Bool) (sink : Putting) (r : Result (Unit {0}) Fault)
    → Leaves answers source enough sink r → IfOk r (λ _. 0 < sink.begun_after)
begun-Leaves answers source enough sink r (written input bytes gave is appends begun sound) = counted-pos sink.begun_before sink.begun_after begun.once
begun-Leaves answers source enough sink r (refused input fault gave is nothing) = tt
begun-Leaves answers source enough sink r (no_answer nothing) = tt
begun-Leaves answers source enough sink r (not_written input bytes gave is front begun failed) = tt

begun-LeavesRecoded : (s : Settings) (caps : Caps) (count : Option ℕ) (from source : Taking) (sink : Putting) (r : Result ℕ EditFault)
    → LeavesRecoded s caps count from source sink r → IfOk (answer_by (λ calls. tt {0}) r) (λ _. 0 < sink.begun_after)
begun-LeavesRecoded s caps count from source sink r (editing.written made gives appends begun sound) =
    counted-pos sink.begun_before sink.begun_after begun.once
begun-LeavesRecoded s caps count from source sink r (editing.refused fault gives nothing) = tt
begun-LeavesRecoded s caps count from source sink r (editing.not_written made gives front begun failed) = tt

pub begun-LeavesEdited : (s : Settings) (caps : Caps) (count : Option ℕ) (from source : Taking) (sink : Putting) (r : Result (Unit {0}) EditFault)
    → LeavesEdited s caps count from source sink r → IfOk r (λ _. 0 < sink.begun_after)
begun-LeavesEdited s caps count from source sink r leaves =
    subst (λ r. IfOk r (λ _. 0 < sink.begun_after)) (sym leaves.uncounted)
    (begun-LeavesRecoded s caps count from source sink leaves.counted leaves.leaves)

-- a call that succeeds, where an error would be passed on as another type of error
pub begun_mapped : {E F : Type 0} (r : Result (Unit {0}) E) (mapped : Result (Unit {0}) F) (u : Unit {0}) (n : ℕ) → is_ok mapped ≡ is_ok r
    → mapped ≡ Ok u → IfOk r (λ _. 0 < n) → 0 < n
begun_mapped (Ok x) mapped u n same is begun = begun
begun_mapped (Err e) mapped u n same is begun = absurd (cc)

-- the end of a sink, whose error is passed on as another type of error
pub synced_mapped : (r : Result Done Fault) (mapped : Result Done Failure) (P : Fault → Type 0) → MatchResult r (λ done. mapped ≡ Ok done) P
    → is_ok mapped ≡ is_ok r → IfOk r (λ done. HasSynced done) → IfOk mapped (λ done. HasSynced done)
synced_mapped (Ok done) mapped P is same synced = subst (λ m. IfOk m (λ done. HasSynced done)) (sym is) synced
synced_mapped (Err e) (Ok done) P is same synced = absurd (cc)
synced_mapped (Err e) (Err failure) P is same synced = tt
