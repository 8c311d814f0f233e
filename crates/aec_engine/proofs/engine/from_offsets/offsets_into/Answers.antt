use Rattle.std.proofs.Common.{◌≡◌, Ok, subst}
use Rattle.std.proofs.lemmas.Result.{err_from_is_err_and}
use Rattle.aec_engine.specs.Buffers.{FillsOne}
use Rattle.aec_engine.proofs.OffsetBufferLemmas.{offsets_lack_bits, offsets_refused, offsets_found}
use Rattle.aec_engine.proofs.engine.from_offsets.offsets_into.Goals as goal

pub returns-in_err-bits : goal.returns-in_err-bits
returns-in_err-bits c =
    let exit = err_from_is_err_and c.from_residual.result c.from_residual.ensures.1 in
    offsets_lack_bits c.args.params.now c.args.limits c.args.count c.args.coded.now c.args.out.now _ _ exit.0 c.in_err-bits.field-0.0
    c.bytes.ensures.value exit.1 exit.2 c.in_err-bits.ensures.fault

pub returns-in_err-offsets : goal.returns-in_err-offsets
returns-in_err-offsets c =
    let exit = err_from_is_err_and c.from_residual-in_err-offsets.result c.from_residual-in_err-offsets.ensures.1 in
    offsets_refused c.args.params.now c.args.limits c.args.count c.args.coded.now c.args.out.now _ _ _ _ exit.0 c.in_err-offsets.field-0.0
    c.bytes.ensures.value c.samples.ensures.value c.in_ok-bits.ensures.spelled c.in_ok-bits.ensures.short exit.1 exit.2 c.in_err-offsets.ensures.refuses

pub returns : goal.returns
returns c =
    offsets_found c.args.params.now c.args.limits c.args.count c.args.coded.now c.args.out.now (Ok c.put_offsets.result) c.put_offsets.new.out _ _ _
    c.in_ok-offsets.offsets.items c.bytes.ensures.value c.samples.ensures.value c.in_ok-bits.ensures.spelled c.in_ok-bits.ensures.short
    c.in_ok-offsets.ensures.ok
    (subst (λ xs. FillsOne (λ answer. answer ≡ Ok xs) c.args.out.now c.put_offsets.new.out (Ok c.put_offsets.result)) c.deref.ensures.value
    c.put_offsets.ensures)
