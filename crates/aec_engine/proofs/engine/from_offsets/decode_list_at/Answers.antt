use Rattle.std.proofs.Common.{◌≡◌, Ok, length, ap, arith, subst}
use Rattle.std.proofs.lemmas.Result.{err_from_is_err_and}
use Rattle.aec_params.proofs.ByteLaws.{length-bits_of_bytes}
use Rattle.aec_engine.specs.Output.{all_stored}
use Rattle.aec_engine.specs.Buffers.{FillsOne}
use Rattle.aec_engine.proofs.OffsetBufferLemmas.{at_lacks_bits, at_refused, at_decoded}
use Rattle.aec_engine.proofs.engine.from_offsets.decode_list_at.Goals as goal

pub returns-in_err-bits : goal.returns-in_err-bits
returns-in_err-bits c =
    let exit = err_from_is_err_and c.from_residual.result c.from_residual.ensures.1 in
    let terms = c.args.terms.now in
    at_lacks_bits terms.params terms.limits terms.count c.args.coded.now c.args.out.now _ c.args.bit _ exit.0 c.in_err-bits.field-0.0
    c.bytes.ensures.value exit.1 exit.2 c.in_err-bits.ensures.fault

pub decode_at-requires-clause-within : goal.decode_at-requires-clause-within
decode_at-requires-clause-within c =
    omega (arith, c.requires.within, ap length c.in_ok-bits.ensures.spelled, length-bits_of_bytes c.args.coded.now)

pub returns-in_err-samples : goal.returns-in_err-samples
returns-in_err-samples c =
    let exit = err_from_is_err_and c.from_residual-in_err-samples.result c.from_residual-in_err-samples.ensures.1 in
    let terms = c.args.terms.now in
    at_refused terms.params terms.limits terms.count c.args.coded.now c.args.out.now _ c.args.bit _ _ _ exit.0 c.in_err-samples.field-0.0
    c.bytes.ensures.value c.samples-limit.ensures.value c.in_ok-bits.ensures.spelled c.in_ok-bits.ensures.short exit.1 exit.2 c.in_err-samples.ensures.refuses

pub returns : goal.returns
returns c =
    let terms = c.args.terms.now in
    at_decoded terms.params terms.limits terms.count c.args.coded.now c.args.out.now (Ok c.put_first.result) c.args.bit c.put_first.new.out _ _ _
    c.in_ok-samples.samples.items c.bytes.ensures.value c.samples-limit.ensures.value c.in_ok-bits.ensures.spelled c.in_ok-bits.ensures.short
    c.in_ok-samples.ensures.ok
    (subst (λ xs. FillsOne (λ answer. answer ≡ Ok (all_stored terms.params xs)) c.args.out.now c.put_first.new.out (Ok c.put_first.result))
    c.deref.ensures.value c.put_first.ensures)
