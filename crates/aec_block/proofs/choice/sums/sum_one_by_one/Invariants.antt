use Rattle.std.proofs.Common.{◌≡◌, ◌*◌, ◌^◌, ◌≤◌, take}
use Rattle.aec_block.specs.Lengths.{sum_of_shifted}
use Rattle.aec_block.proofs.choice.sums.sum_one_by_one.Given as goal

abbrev pub invariant-loop-v : goal.invariant-loop-v
invariant-loop-v l = (l.sum ≡ sum_of_shifted l.k (take l.v-index l.values)) × (l.sum ≤ l.v-index * 2 ^ 32)
