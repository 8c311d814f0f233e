use Rattle.std.proofs.Common.{refl}
use Rattle.std.proofs.lemmas.Result.{err_from_is_err_and}
use Rattle.aec_engine.proofs.RangeBufferLemmas.{refused_range_into, ranged_into}
use Rattle.aec_engine.proofs.engine.into_buffers.range_into.Goals as goal

pub returns-in_err-bits : goal.returns-in_err-bits
returns-in_err-bits c =
    let exit = err_from_is_err_and c.from_residual.result c.from_residual.ensures.1 in
    refused_range_into c.args.params.now c.args.limits c.args.count c.args.first c.args.len _ _ _ _ c.args.coded.now c.args.out.now _ exit.0
    c.in_err-bits.field-0.0 exit.1 exit.2 c.bytes.ensures.value refl refl c.in_err-bits.ensures.refuses

pub returns : goal.returns
returns c =
    ranged_into c.args.params.now c.args.limits c.args.count c.args.first c.args.len _ _ _ _ _ c.args.coded.now c.args.out.now _
    c.range_bits_into.result c.bytes.ensures.value refl refl c.in_ok-bits.ensures.ok c.range_bits_into.ensures
