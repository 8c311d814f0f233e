use Rattle.std.proofs.Common.{take, drop}
use Rattle.aec_block.specs.HighWords.{GoesOn}
use Rattle.aec_block.proofs.writing.after_reference.high_word_of_seven.Given as goal

abbrev pub invariant-loop-i : goal.invariant-loop-i
invariant-loop-i l = GoesOn l.k 0 0 (take l.i (drop 1 l.all)) l.word
