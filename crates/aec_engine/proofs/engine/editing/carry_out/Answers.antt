use Rattle.std.proofs.Common.{Ok, Err, length, arith, refl, ap}
use Rattle.aec_engine.specs.declared.scripts.EditFault.TheVariants.{Line}
use Rattle.aec_engine.proofs.EditingLemmas.{carried-all, carried-stops, carries, stop-within}
use Rattle.aec_engine.proofs.engine.editing.carry_out.Goals as goal

pub line_of-requires : goal.line_of-requires
line_of-requires g c =
    omega (
      arith,
      c.requires.lines,
      stop-within _ _ _ _ _ _ _ _ c.deref.result.now _ c.in-Err.stop refl c.in-Err.ensures.run,
      ap length c.deref.ensures.value,
    )

pub returns-in-Ok-clause-ok : goal.returns-in-Ok-clause-ok
returns-in-Ok-clause-ok g c =
    carried-all _ _ _ _ _ _ _ _ _ c.args.script.now.edits.items c.args.script.now.lines.items _ c.in-Ok.field-0
    refl c.deref.ensures.value c.in-Ok.ensures.run c.requires.lines

pub returns-in-Err-clause-refuses : goal.returns-in-Err-clause-refuses
returns-in-Err-clause-refuses g c =
    carried-stops _ _ _ _ _ _ _ _ _ c.args.script.now.edits.items c.args.script.now.lines.items _ c.in-Err.stop c.line_of.result
    refl c.deref.ensures.value c.in-Err.ensures.run c.requires.lines c.line_of.ensures

pub returns-in-Ok-clause-carries : goal.returns-in-Ok-clause-carries
returns-in-Ok-clause-carries g c =
    carries _ _ _ _ _ _ _ _ _ c.args.script.now.edits.items c.args.script.now.lines.items (Ok c.in-Ok.field-0) _ c.deref.ensures.value c.in-Ok.ensures.run refl

pub returns-in-Err-clause-carries : goal.returns-in-Err-clause-carries
returns-in-Err-clause-carries g c =
    carries _ _ _ _ _ _ _ _ _ c.args.script.now.edits.items c.args.script.now.lines.items (Err c.in-Err.stop) _ c.deref.ensures.value c.in-Err.ensures.run
    (ap (λ n. Err (Line n c.in-Err.stop.fault)) c.line_of.ensures)
