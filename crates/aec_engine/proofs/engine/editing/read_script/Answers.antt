use Rattle.std.proofs.lemmas.Result.{err_from_is_err_and}
use Rattle.aec_engine.proofs.EditedLemmas.{gave_script, refuses_intake, refuses_script}
use Rattle.aec_engine.proofs.engine.editing.read_script.Goals as goal

pub returns-in_err-text-clause-refuses : goal.returns-in_err-text-clause-refuses
returns-in_err-text-clause-refuses g c =
    let exit = err_from_is_err_and c.from_residual.result c.from_residual.ensures.1 in
    refuses_intake _ exit.0 c.in_err-text.field-0.0 _ _ _ _ _ exit.1 exit.2 c.bytes.ensures.value c.in_err-text.ensures.refuses

pub returns-in_err-judge_script-clause-refuses : goal.returns-in_err-judge_script-clause-refuses
returns-in_err-judge_script-clause-refuses g c =
    let exit = err_from_is_err_and c.from_residual-in_err-judge_script.result c.from_residual-in_err-judge_script.ensures.1 in
    refuses_script _ exit.0 c.in_err-judge_script.field-0.0 _ _ _ _ _ c.in_ok-text.text.items c.deref.result.now exit.1 exit.2
    c.bytes.ensures.value c.deref.ensures.value c.in_ok-text.ensures.ok c.in_err-judge_script.ensures.refuses

pub returns-clause-ok : goal.returns-clause-ok
returns-clause-ok g c =
    gave_script _ _ _ _ _ c.in_ok-text.text.items c.deref.result.now c.bytes.ensures.value c.deref.ensures.value c.in_ok-text.ensures.ok
    c.in_ok-judge_script.ensures.ok
