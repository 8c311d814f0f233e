use Rattle.std.proofs.Common.{◌≡◌, ◌∷◌, ◌++◌, [], sym, ◌∙◌, to_z-of_z, rules, FitsSigned, w64}
use Rattle.aec_engine.specs.Scripts.{words_of}
use Rattle.aec_engine.proofs.ScriptLineLemmas.{values_in-next}
use Rattle.aec_engine.proofs.script_lines.values_of.Goals as goal

pub loop-word-preserved : goal.loop-word-preserved
loop-word-preserved c =
    let fits : FitsSigned w64 c.in-Some-parse_value.x = search rules in
    let pushed : c.push.new.self.items ≡ c.loop-word.values.items ++ c.in-Some-parse_value.x ∷ [] =
    simp to_z-of_z at c.in_ok-push-in-Some-parse_value.ensures.items in
    values_in-next _ c.loop-word.values.items _ c.in-Some.word.now (words_of c.in-Some.after.now) c.in-Some-parse_value.x
    (rw c.in-Some.ensures.words at c.loop-word.invariant.0)
    (rw c.in-Some.ensures.words at c.loop-word.invariant.1)
    (sym c.parse_value.ensures ∙ c.in-Some-parse_value.is)
    pushed
