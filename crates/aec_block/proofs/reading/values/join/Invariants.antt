use Rattle.std.proofs.Common.{◌≡◌}
use Rattle.aec_block.proofs.JoiningLemmas.{joined_front}
use Rattle.aec_block.proofs.reading.values.join.Given as goal

abbrev pub invariant-loop-i : goal.invariant-loop-i
invariant-loop-i l = l.values ≡ joined_front l.k l.i l.fn.values l.lows
