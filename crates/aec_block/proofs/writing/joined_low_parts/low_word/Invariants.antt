use Rattle.aec_block.proofs.LowWordLemmas.{IsLowWord}
use Rattle.aec_block.proofs.writing.joined_low_parts.low_word.Given as goal

abbrev pub invariant-loop-i : goal.invariant-loop-i
invariant-loop-i l = IsLowWord l.width l.i l.values l.word
