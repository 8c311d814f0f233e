use Rattle.std.proofs.Common.{refl}
use Rattle.std.proofs.lemmas.Result.{err_from_is_err_and}
use Rattle.aec_engine.proofs.BufferLemmas.{refused_into, decoded_into}
use Rattle.aec_engine.proofs.engine.into_buffers.decode_into.Goals as goal

pub returns-in_err-bits : goal.returns-in_err-bits
returns-in_err-bits c =
    let exit = err_from_is_err_and c.from_residual.result c.from_residual.ensures.1 in
    refused_into c.args.params.now c.args.limits c.args.count _ _ _ _ c.args.coded.now c.args.out.now _ exit.0 c.in_err-bits.field-0.0 exit.1 exit.2
    c.bytes.ensures.value refl refl c.in_err-bits.ensures.refuses

pub returns : goal.returns
returns c =
    decoded_into c.args.params.now c.args.limits c.args.count _ _ _ _ _ c.args.coded.now c.args.out.now _ c.decode_bits_into.result
    c.bytes.ensures.value refl refl c.in_ok-bits.ensures.ok c.decode_bits_into.ensures
