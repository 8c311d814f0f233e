use Rattle.std.proofs.Common.{◌≤◌, arith}
use Rattle.std.proofs.lemmas.Bool.Decides.{nat_tests}
use Rattle.aec_block.proofs.ThreeSumsLemmas.{narrow-small}
use Rattle.aec_block.proofs.choice.splitting.sum_of_values.Goals as goal

pub small_shifted_sum-requires-clause-lanes : goal.small_shifted_sum-requires-clause-lanes
small_shifted_sum-requires-clause-lanes c =
    let narrow : c.args.bits ≤ 26 = grind (arith, nat_tests) in
    record { k_below = omega arith; small = narrow-small c.args.bits c.args.values.now narrow c.requires.len c.requires.below }
