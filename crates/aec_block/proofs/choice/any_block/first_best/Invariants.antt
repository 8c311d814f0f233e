use Rattle.std.proofs.Common.{◌≡◌, ◌*◌, ◌^◌, ◌≤◌}
use Rattle.aec_block.specs.Lengths.{sum_of_shifted}
use Rattle.aec_block.proofs.SplittingLemmas.{FallsTo}
use Rattle.aec_block.proofs.choice.any_block.first_best.Given as goal

abbrev pub invariant-loop-k : goal.invariant-loop-k
invariant-loop-k l = (l.sum ≡ sum_of_shifted l.k l.values) × FallsTo l.k l.values × (l.sum ≤ 2 * (64 * 2 ^ 32))
