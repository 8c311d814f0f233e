use Rattle.std.proofs.Common.{◌-◌, ◌^◌, inl, ap, arith}
use Rattle.aec_engine.specs.declared.scripts.EditFault.TheVariants.{Plain}
use Rattle.aec_engine.proofs.AtOnceLemmas.{stop_index, stops_named, made_as_one, memory_as_one}
use Rattle.aec_engine.proofs.engine.at_once.carry_as_one.Goals as goal

pub line_of-requires : goal.line_of-requires
line_of-requires g c =
    let seen = c.args.workspace.now in
    let script = c.args.script.now in
    let it = stop_index (g.C.Codec.format seen.codec) seen.limit (2 ^ 64 - 1 - c.args.left) seen.samples c.deref.result.now script.edits.items
    script.lines.items c.in-Err.stop c.deref.ensures.value c.requires.lines c.in-Err.ensures.refuses in
    omega (arith, it.place_is, it.within, c.requires.lines)

pub returns-in-Err-clause-refuses : goal.returns-in-Err-clause-refuses
returns-in-Err-clause-refuses g c =
    let seen = c.args.workspace.now in
    let script = c.args.script.now in
    let it = stop_index (g.C.Codec.format seen.codec) seen.limit (2 ^ 64 - 1 - c.args.left) seen.samples c.deref.result.now script.edits.items
    script.lines.items c.in-Err.stop c.deref.ensures.value c.requires.lines c.in-Err.ensures.refuses in
    stops_named (g.C.Codec.format seen.codec) seen.limit (2 ^ 64 - 1 - c.args.left) seen.samples script.edits.items script.lines.items c.in-Err.stop
    c.line_of.result it c.line_of.ensures

pub returns-in-Ok-apply_all-clause-ok : goal.returns-in-Ok-apply_all-clause-ok
returns-in-Ok-apply_all-clause-ok g c =
    let seen = c.args.workspace.now in
    let script = c.args.script.now in
    made_as_one (g.C.Codec.format seen.codec) seen.limit (2 ^ 64 - 1 - c.args.left) c.in-Ok.needed seen.samples c.apply_all.new.self.samples
    c.deref.result.now c.deref-2.result.now script.edits.items script.lines.items c.deref.ensures.value c.deref-2.ensures.value c.requires.lines
    c.in-Ok.ensures.ok c.in-Ok.ensures.needed c.in-Ok-apply_all.ensures.answer.samples

pub returns-in-Err-apply_all-clause-refuses : goal.returns-in-Err-apply_all-clause-refuses
returns-in-Err-apply_all-clause-refuses g c =
    let seen = c.args.workspace.now in
    let script = c.args.script.now in
    inl (ap Plain (memory_as_one (g.C.Codec.format seen.codec) seen.limit (g.C.Codec.called seen.codec) (2 ^ 64 - 1 - c.args.left) seen.samples
    c.apply_all.new.self.samples c.deref.result.now c.deref-2.result.now script.edits.items c.in-Err-apply_all.stop
    (g.C.Codec.called c.apply_all.new.self.codec) c.deref.ensures.value c.deref-2.ensures.value (omega (arith, c.requires.calls)) c.in-Ok.ensures.ok
    c.in-Err-apply_all.ensures.answer))
