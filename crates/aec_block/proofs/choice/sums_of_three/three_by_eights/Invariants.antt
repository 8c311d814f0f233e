use Rattle.std.proofs.Common.{◌≡◌, ◌+◌, ◌*◌, take, length}
use Rattle.std.specs.Simd.Lanes.{sum_l}
use Rattle.aec_block.specs.Lengths.{sum_of_shifted}
use Rattle.aec_block.proofs.choice.sums_of_three.three_by_eights.Given as goal

abbrev pub invariant-loop-i : goal.invariant-loop-i
invariant-loop-i l =
    ((length l.first ≡ 8) × (length l.second ≡ 8) × (length l.third ≡ 8))
    × (sum_l l.first ≡ sum_of_shifted l.k (take (8 * l.i) l.values))
    × (sum_l l.second ≡ sum_of_shifted (l.k + 1) (take (8 * l.i) l.values))
    × (sum_l l.third ≡ sum_of_shifted (l.k + 2) (take (8 * l.i) l.values))
