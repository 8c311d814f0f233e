use Rattle.std.proofs.lemmas.Result.{err_from_is_err_and}
use Rattle.aec_engine.proofs.InMemoryLemmas.{code_err_out, code_ok_bytes}
use Rattle.aec_engine.proofs.coded_bytes.encode_bytes.Goals as goal

pub returns-in_err-bits-clause-refuses : goal.returns-in_err-bits-clause-refuses
returns-in_err-bits-clause-refuses c =
    let exit = err_from_is_err_and c.from_residual.result c.from_residual.ensures.1 in
    code_err_out c.args.params.now c.args.limits c.args.bytes.now _ exit.0 c.in_err-bits.field-0.0 exit.1 exit.2 c.in_err-bits.ensures

pub returns-clause-ok : goal.returns-clause-ok
returns-clause-ok c =
    code_ok_bytes c.args.params.now c.args.limits c.args.bytes.now _ (λ v. v.items) c.bytes_in.result c.in_ok-bits.ensures c.bytes_in.ensures.ok
