use Rattle.std.proofs.Common.{◌+◌, ◌≤◌, ◌∙◌, sym, subst, arith, length}
use Rattle.std.proofs.lemmas.Bool.Decides.{nat_tests}
use Rattle.aec_block.specs.Lengths.{IsBestSplit}
use Rattle.aec_block.proofs.SplittingLemmas.{best-stopped, falls_to-first, sum_of_shifted-none}
use Rattle.aec_block.proofs.choice.splitting.best_split.Goals as goal

pub returns-then-not-is_shorter_next-clause-best : goal.returns-then-not-is_shorter_next-clause-best
returns-then-not-is_shorter_next-clause-best c =
    let stop : c.loop-k.sum ≤ c.sum_from-next.result + length c.args.values.now = grind (arith, nat_tests) in
    λ some. subst (λ k. IsBestSplit c.args.options k c.args.values.now) (sym c.with_k.ensures.k)
    (best-stopped c.args.options c.loop-k.k c.loop-k.sum c.sum_from-next.result c.args.values.now c.loop-k.invariant.1 (omega arith)
    c.loop-k.invariant.0 (c.sum_from-next.ensures.sum ∙ c.requires.equal.sums (c.loop-k.k + 1)) stop)

pub loop-k-init : goal.loop-k-init
loop-k-init c =
    let falls = falls_to-first c.first_k-first.result c.sum_of_values-total.result c.args.values.now
    (c.sum_of_values-total.ensures.sum ∙ c.requires.equal.sums 0)
    c.first_k-first.ensures.before in
    (c.sum_from-sum.ensures.sum ∙ c.requires.equal.sums c.first_k-first.result, falls, c.sum_from-sum.ensures.bound)

pub returns-then-first-last-clause-best : goal.returns-then-first-last-clause-best
returns-then-first-last-clause-best c some = c.best_of_three.ensures.best c.args.options (omega arith)

pub first_k-first-requires-clause-none : goal.first_k-first-requires-clause-none
first_k-first-requires-clause-none c none =
    omega (arith, (c.sum_of_values-total.ensures.sum ∙ c.requires.equal.sums 0), sum_of_shifted-none c.args.values.now none)
