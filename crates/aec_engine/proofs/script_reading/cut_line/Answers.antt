use Rattle.std.proofs.Common.{◌∷◌, ◌+◌, ◌-◌, length, drop, take, ap, sym, ◌∙◌, arith, length-drop, ◌≤◌}
use Rattle.std.proofs.lemmas.Bool.{eq-eqb}
use Rattle.std.proofs.lemmas.List.{take_all}
use Rattle.aec_engine.specs.ScriptLines.{lines_of}
use Rattle.aec_engine.proofs.ScriptLineLemmas.{lines_of-first, lines_of-one}
use Rattle.aec_engine.proofs.script_reading.cut_line.Goals as goal

pub returns-then-byte-eq10-clause-lines : goal.returns-then-byte-eq10-clause-lines
returns-then-byte-eq10-clause-lines c =
    let rest = drop (c.loop-i.i + 1) c.args.text.now in
    let whole : length rest ≤ length c.args.text.now - (c.loop-i.i + 1) = omega (arith, length-drop (c.loop-i.i + 1) c.args.text.now) in
    lines_of-first c.args.text.now c.loop-i.i (omega arith) c.loop-i.invariant (eq-eqb _ _ c.if-byte-eq10.true)
    ∙ ap (λ text. take c.loop-i.i c.args.text.now ∷ lines_of text) (sym (take_all _ rest whole))

pub returns-clause-lines : goal.returns-clause-lines
returns-clause-lines c = lines_of-one c.args.text.now (λ k h. c.loop-i.invariant k (omega arith))
