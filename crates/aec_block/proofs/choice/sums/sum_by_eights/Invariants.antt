use Rattle.std.proofs.Common.{◌≡◌, ◌*◌, ◌^◌, ◌≤◌, take, length}
use Rattle.std.specs.Simd.Lanes.{sum_l}
use Rattle.aec_block.specs.Lengths.{sum_of_shifted}
use Rattle.aec_block.proofs.choice.sums.sum_by_eights.Given as goal

abbrev pub invariant-loop-i : goal.invariant-loop-i
invariant-loop-i l =
    (length l.sums ≡ 8) × (sum_l l.sums ≡ sum_of_shifted l.k (take (8 * l.i) l.values)) × (sum_l l.sums ≤ 8 * l.i * 2 ^ 32)
