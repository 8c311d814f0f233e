use Rattle.std.proofs.Common.{◌≡◌, ◌+◌}
use Rattle.aec_block.proofs.PairLemmas.{triangle}
use Rattle.aec_block.proofs.reading.codewords.pair_of.Given as goal

abbrev pub invariant-loop-sum : goal.invariant-loop-sum
invariant-loop-sum l = triangle l.sum + l.second ≡ l.number

abbrev pub decreases-loop-sum : goal.decreases-loop-sum
decreases-loop-sum l = l.second
