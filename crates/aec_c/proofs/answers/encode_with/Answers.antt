use Rattle.std.proofs.Common.{sym}
use Rattle.std.proofs.lemmas.Result.{err_from_is_err_and}
use Rattle.aec_engine.proofs.BufferLemmas.{fills_refusal}
use Rattle.aec_c.specs.Calls.{not_allowed}
use Rattle.aec_c.proofs.AnswerLemmas.{coding_into}
use Rattle.aec_c.proofs.answers.encode_with.Goals as goal

pub returns : goal.returns
returns c =
    rw (← c.in_ok-params.ensures.ok) (coding_into c.in_ok-params.params c.args.samples.now c.args.out.now _ c.encode_into.result
    c.in_ok-params.ensures.allowed (rw c.limits.ensures at c.encode_into.ensures))

pub returns-in_err-params : goal.returns-in_err-params
returns-in_err-params c =
    let exit = err_from_is_err_and c.from_residual.result c.from_residual.ensures.1 in
    fills_refusal _ c.args.out.now _ exit.0 _ exit.1 exit.2 (not_allowed _ (sym c.in_err-params.ensures.refuses))
