use Rattle.std.proofs.Common.{◌+◌, ◌*◌, ◌≤◌, ◌∙◌, ap, arith, length}
use mir.Val.{bool_byte}
use Rattle.aec_block.proofs.SplittingLemmas.{sum_of_shifted-few, best-chosen}
use Rattle.aec_block.proofs.choice.splitting.best_of_three.Goals as goal

pub three_sums-sums-requires-clause-small : goal.three_sums-sums-requires-clause-small
three_sums-sums-requires-clause-small c =
    omega (arith, sum_of_shifted-few c.args.first c.args.values.now c.requires.there, c.requires.equal.sums c.args.first)

pub returns-clause-best : goal.returns-clause-best
returns-clause-best c =
    let sums = c.three_sums-sums in
    let few : sums.result.first ≤ 3 * length c.args.values.now =
    omega (arith, sums.ensures.first.sum ∙ c.requires.equal.sums c.args.first, sum_of_shifted-few c.args.first c.args.values.now c.requires.there) in
    best-chosen c.args.first sums.result.first sums.result.second sums.result.third c.with_k.result.k c.args.values.now c.requires.before
    (sums.ensures.first.sum ∙ c.requires.equal.sums c.args.first)
    (sums.ensures.second.sum ∙ c.requires.equal.sums (c.args.first + 1))
    (sums.ensures.third.sum ∙ c.requires.equal.sums (c.args.first + 2)) few
    c.is_shorter_next-one.result c.is_shorter_next.result c.is_shorter_next-one.ensures c.is_shorter_next.ensures
    (c.with_k.ensures.k ∙ (ap (λ n. c.args.first + n + c.from-2.result) c.from.ensures
    ∙ ap (λ n. c.args.first + bool_byte c.is_shorter_next-one.result + n) c.from-2.ensures))
