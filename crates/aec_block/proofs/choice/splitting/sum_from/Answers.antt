use Rattle.std.proofs.Common.{◌+◌, ◌≤◌, arith}
use Rattle.std.proofs.lemmas.Bool.Decides.{nat_tests}
use Rattle.aec_block.proofs.ThreeSumsLemmas.{shifted-small}
use Rattle.aec_block.proofs.choice.splitting.sum_from.Goals as goal

pub small_shifted_sum-requires-clause-lanes : goal.small_shifted_sum-requires-clause-lanes
small_shifted_sum-requires-clause-lanes c =
    let narrow : c.args.bits ≤ 26 + c.args.k = grind (arith, nat_tests) in
    record {
      k_below = c.requires.k;
      small = shifted-small c.args.k c.args.bits c.args.values.now narrow c.requires.values.len c.requires.values.below;
    }
