use Rattle.std.proofs.Common.{◌≡◌, ◌≤◌, length}
use Rattle.aec_engine.specs.Scripts.{words_of}
use Rattle.aec_engine.proofs.script_words.from_first_word.Given as goal

abbrev pub invariant-loop-rest : goal.invariant-loop-rest
invariant-loop-rest l = (words_of l.rest ≡ words_of l.fn.line) × (length l.rest ≤ length l.fn.line)

abbrev pub decreases-loop-rest : goal.decreases-loop-rest
decreases-loop-rest l = length l.rest
