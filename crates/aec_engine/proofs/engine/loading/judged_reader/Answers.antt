use Rattle.std.proofs.Common.{Some, ◌∙◌, ap}
use Rattle.std.proofs.lemmas.Result.{err_from_is_err_and}
use Rattle.aec_interval.specs.Reached.{faulty}
use Rattle.aec_engine.proofs.ReadTwiceLemmas.{faults_last}
use Rattle.aec_engine.proofs.SettlingLemmas.{refuses_count, refuses_reading}
use Rattle.aec_engine.proofs.engine.loading.judged_reader.Goals as goal

pub returns-in_err-reader-clause-refuses : goal.returns-in_err-reader-clause-refuses
returns-in_err-reader-clause-refuses c =
    let exit = err_from_is_err_and c.from_residual.result c.from_residual.ensures.1 in
    rw (exit.1, ← c.samples.ensures.value) (refuses_count _ _ _ _ exit.0 (ap Some exit.2 ∙ c.in_err-reader.ensures.refuses))

pub returns-in_err-judged-clause-refuses : goal.returns-in_err-judged-clause-refuses
returns-in_err-judged-clause-refuses c =
    let exit = err_from_is_err_and c.from_residual-in_err-judged.result c.from_residual-in_err-judged.ensures.1 in
    rw (exit.1, exit.2, ← c.samples.ensures.value) (refuses_reading _ _ _ _ c.in_ok-reader.reader c.in_err-judged.field-0.0 c.in_ok-reader.ensures.ok
    c.in_ok-reader.ensures.refuses (faulty _ c.in_err-judged.ensures.refuses))

pub returns-in_err-judged-clause-fault : goal.returns-in_err-judged-clause-fault
returns-in_err-judged-clause-fault c =
    let exit = err_from_is_err_and c.from_residual-in_err-judged.result c.from_residual-in_err-judged.ensures.1 in
    rw (exit.1, exit.2) (faults_last _ _ _ _ _ _ _ c.in_err-judged.ensures.refuses)
