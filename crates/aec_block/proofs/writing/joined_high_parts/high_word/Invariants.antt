use Rattle.std.proofs.Common.{◌*◌, take}
use Rattle.aec_block.specs.HighWords.{GoesOn}
use Rattle.aec_block.proofs.writing.joined_high_parts.high_word.Given as goal

abbrev pub invariant-loop-i : goal.invariant-loop-i
invariant-loop-i l = GoesOn l.k 0 0 (take (8 * l.i) l.values) l.word
