use Rattle.std.proofs.Common.{sym}
use Rattle.std.proofs.lemmas.Result.{err_from_is_err_and}
use Rattle.aec_engine.proofs.BufferLemmas.{fills_refusal}
use Rattle.aec_c.specs.Calls.{no_settings}
use Rattle.aec_c.proofs.AnswerLemmas.{ranging_into}
use Rattle.aec_c.proofs.answers.range_with.Goals as goal

pub returns : goal.returns
returns c =
    rw (← c.in_ok-params.ensures.ok) (ranging_into c.in_ok-params.params _ c.args.asked.first c.args.asked.len c.args.bytes.now c.args.out.now _
    c.range_within_bound.result c.in_ok-params.ensures.allowed c.range_within_bound.ensures)

pub returns-in_err-params : goal.returns-in_err-params
returns-in_err-params c =
    let exit = err_from_is_err_and c.from_residual.result c.from_residual.ensures.1 in
    fills_refusal _ c.args.out.now _ exit.0 _ exit.1 exit.2 (no_settings _ (sym c.in_err-params.ensures.refuses))
