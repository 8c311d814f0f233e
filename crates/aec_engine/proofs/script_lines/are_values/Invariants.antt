use Rattle.std.proofs.Common.{◌≡◌, length}
use Rattle.aec_engine.specs.ScriptLines.{are_values}
use Rattle.aec_engine.proofs.script_lines.are_values.Given as goal

abbrev pub invariant-loop-word : goal.invariant-loop-word
invariant-loop-word l = are_values l.rest ≡ are_values l.fn.text

abbrev pub decreases-loop-word : goal.decreases-loop-word
decreases-loop-word l = length l.rest
