use Rattle.std.proofs.Common.{Ok, Err}
use Rattle.std.proofs.lemmas.Result.{err_from_is_err_and}
use Rattle.aec_engine.specs.declared.scripts.EditFault.TheVariants.{Plain}
use Rattle.aec_engine.specs.EditingSteps.{recoded_of}
use Rattle.aec_engine.proofs.EditAnswerLemmas.{gives_no_script, gives_no_bits, gives_bits, leaves_unedited, leaves_undelivered, leaves_edited}
use Rattle.aec_engine.proofs.engine.editing.edit_with.Goals as goal

pub returns-in_err-script-clause-leaves : goal.returns-in_err-script-clause-leaves
returns-in_err-script-clause-leaves g c =
    let exit = err_from_is_err_and c.from_residual.result c.from_residual.ensures.1 in
    leaves_unedited _ _ exit.0 (Plain c.in_err-script.field-0.0) _ _ _ _ _
    (g.W.Sink.taken c.args.sink.now) (g.W.Sink.mark c.args.sink.now) (g.W.Sink.begun c.args.sink.now) (g.W.Sink.failed c.args.sink.now) exit.1 exit.2
    (gives_no_script c.args.terms.params c.args.terms.limits c.args.terms.count _ _ _ c.in_err-script.field-0.0 c.in_err-script.ensures.refuses)

pub returns-in_err-bits-clause-leaves : goal.returns-in_err-bits-clause-leaves
returns-in_err-bits-clause-leaves g c =
    let exit = err_from_is_err_and c.from_residual-in_err-bits.result c.from_residual-in_err-bits.ensures.1 in
    leaves_unedited _ _ exit.0 (Plain c.in_err-bits.field-0.0) _ _ _ _ _
    (g.W.Sink.taken c.args.sink.now) (g.W.Sink.mark c.args.sink.now) (g.W.Sink.begun c.args.sink.now) (g.W.Sink.failed c.args.sink.now) exit.1 exit.2
    (gives_no_bits c.args.terms.params c.args.terms.limits c.args.terms.count _ _ _ _ _ _ c.in_err-bits.field-0.0
    c.bytes.ensures.value c.in_ok-script.ensures.ok
    c.in_err-bits.ensures.refuses)

pub returns-in_err-carried-clause-leaves : goal.returns-in_err-carried-clause-leaves
returns-in_err-carried-clause-leaves g c =
    let exit = err_from_is_err_and c.from_residual-in_err-carried.result c.from_residual-in_err-carried.ensures.1 in
    leaves_unedited _ _ exit.0 c.in_err-carried.field-0.0 _ _ _ _ _
    (g.W.Sink.taken c.args.sink.now) (g.W.Sink.mark c.args.sink.now) (g.W.Sink.begun c.args.sink.now) (g.W.Sink.failed c.args.sink.now) exit.1 exit.2
    (gives_bits c.args.terms.params c.args.terms.limits c.args.terms.count _ _ _ _ _ _ c.in_ok-script.script.items c.deref.result.now
    (Err c.in_err-carried.field-0.0) c.bytes.ensures.value c.deref.ensures.value c.in_ok-script.ensures.ok c.in_ok-bits.ensures.ok
    c.in_err-carried.ensures.edits)

pub returns-in_err-deliver_code-clause-leaves : goal.returns-in_err-deliver_code-clause-leaves
returns-in_err-deliver_code-clause-leaves g c =
    let exit = err_from_is_err_and c.from_residual-in_err-deliver_code.result c.from_residual-in_err-deliver_code.ensures.1 in
    let w = c.in_ok-carried.carried in
    let made = recoded_of (g.C.Codec.format w.workspace.codec) w.workspace.samples w.calls in
    leaves_undelivered _ _ exit.0 c.in_err-deliver_code.field-0.0 _ _ _ _ _ _ made exit.1 exit.2
    (gives_bits c.args.terms.params c.args.terms.limits c.args.terms.count _ _ _ _ _ _ c.in_ok-script.script.items c.deref.result.now
    (Ok made) c.bytes.ensures.value c.deref.ensures.value c.in_ok-script.ensures.ok c.in_ok-bits.ensures.ok c.in_ok-carried.ensures.edits)
    c.in_err-deliver_code.ensures

pub returns-clause-leaves : goal.returns-clause-leaves
returns-clause-leaves g c =
    let w = c.in_ok-carried.carried in
    let made = recoded_of (g.C.Codec.format w.workspace.codec) w.workspace.samples w.calls in
    leaves_edited _ _ _ _ _ _ made
    (gives_bits c.args.terms.params c.args.terms.limits c.args.terms.count _ _ _ _ _ _ c.in_ok-script.script.items c.deref.result.now
    (Ok made) c.bytes.ensures.value c.deref.ensures.value c.in_ok-script.ensures.ok c.in_ok-bits.ensures.ok c.in_ok-carried.ensures.edits)
    c.in_ok-deliver_code.ensures
