use Rattle.std.proofs.Common.{◌≡◌, length, true}
use Rattle.aec_engine.specs.Scripts.{words_of, values_in}
use Rattle.aec_engine.specs.ScriptLines.{are_values, after_values}
use Rattle.aec_engine.proofs.script_lines.values_of.Given as goal

abbrev pub invariant-loop-word : goal.invariant-loop-word
invariant-loop-word l =
    (values_in (words_of l.fn.text) ≡ after_values l.values.items (values_in (words_of l.rest))) × (are_values l.rest ≡ true)

abbrev pub decreases-loop-word : goal.decreases-loop-word
decreases-loop-word l = length l.rest
