use Rattle.std.proofs.lemmas.Result.{err_from_is_err_and}
use Rattle.aec_engine.specs.EarlyEdits.{no_room}
use Rattle.aec_engine.specs.EditsAhead.{left_in}
use Rattle.aec_engine.proofs.LoadingLemmas.{loading_stopped, rest_stopped, rest_made}
use Rattle.aec_engine.proofs.engine.editing.edit_planned.Goals as goal

pub returns-in_err-samples-clause-edits : goal.returns-in_err-samples-clause-edits
returns-in_err-samples-clause-edits g c =
    let exit = err_from_is_err_and c.from_residual.result c.from_residual.ensures.1 in
    rw (exit.1, exit.2, c.in_err-samples.ensures.fault) no_room

pub returns-in_err-ahead-clause-edits : goal.returns-in_err-ahead-clause-edits
returns-in_err-ahead-clause-edits g c =
    let exit = err_from_is_err_and c.from_residual-in_err-ahead.result c.from_residual-in_err-ahead.ensures.1 in
    rw (exit.1, exit.2, c.in_err-ahead.ensures.fault) no_room

pub returns-in_err-append_all-clause-edits : goal.returns-in_err-append_all-clause-edits
returns-in_err-append_all-clause-edits g c =
    let exit = err_from_is_err_and c.from_residual-in_err-append_all.result c.from_residual-in_err-append_all.ensures.1 in
    rw (exit.1, exit.2)
    (loading_stopped _ _ _ _ _ (rw (c.requires.format, c.in_ok-ahead.ensures.all) at c.in_err-append_all.ensures.refuses))

pub returns-in_err-calls-clause-edits : goal.returns-in_err-calls-clause-edits
returns-in_err-calls-clause-edits g c =
    let exit = err_from_is_err_and c.from_residual-in_err-calls.result c.from_residual-in_err-calls.ensures.1 in
    let rules = c.append_all.ensures.rules in
    rw (exit.1, exit.2)
    (rest_stopped _ _ _ _ (left_in c.append_all.new.ahead) _ _ (rw (c.requires.format, c.in_ok-ahead.ensures.all) at c.in_ok-append_all.ensures.ok) _
    (rw (rules.format, c.requires.format, rules.limit) at c.in_err-calls.ensures.refuses))

pub returns-clause-edits : goal.returns-clause-edits
returns-clause-edits g c =
    let rules = c.append_all.ensures.rules in
    rw (c.carry_ahead.ensures.rules.format, rules.format, c.requires.format)
    (rest_made _ _ _ _ (left_in c.append_all.new.ahead) _ _ (rw (c.requires.format, c.in_ok-ahead.ensures.all) at c.in_ok-append_all.ensures.ok) _ _
    (rw (rules.format, c.requires.format, rules.limit) at c.in_ok-calls.ensures.ok))
