use Rattle.std.proofs.Common.{◌+◌, ◌≤◌, sym, subst, arith, length}
use Rattle.std.proofs.lemmas.Bool.Decides.{nat_tests}
use Rattle.aec_block.specs.Lengths.{IsBestSplit}
use Rattle.aec_block.proofs.SplittingLemmas.{best-stopped, falls_to-none}
use Rattle.aec_block.proofs.choice.any_block.first_best.Goals as goal

pub returns-then-not-is_shorter_next-clause-best : goal.returns-then-not-is_shorter_next-clause-best
returns-then-not-is_shorter_next-clause-best c =
    let stop : c.loop-k.sum ≤ c.shifted_sum-next.result + length c.args.values.now = grind (arith, nat_tests) in
    subst (λ k. IsBestSplit c.args.options k c.args.values.now) (sym c.with_k.ensures.k)
    (best-stopped c.args.options c.loop-k.k c.loop-k.sum c.shifted_sum-next.result c.args.values.now c.loop-k.invariant.1 (omega arith)
    c.loop-k.invariant.0 c.shifted_sum-next.ensures.sum stop)

pub loop-k-init : goal.loop-k-init
loop-k-init c = (c.shifted_sum-sum.ensures.sum, falls_to-none c.args.values.now, c.shifted_sum-sum.ensures.bound)
