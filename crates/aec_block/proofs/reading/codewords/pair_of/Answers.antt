use Rattle.std.proofs.Common.{sym, ap, arith}
use Rattle.aec_block.specs.ReadAt.{Pair}
use Rattle.aec_block.proofs.PairLemmas.{pair_with_number-sum}
use Rattle.aec_block.proofs.reading.codewords.pair_of.Goals as goal

pub returns-clause-first : goal.returns-clause-first
returns-clause-first c =
    ap (λ (p : Pair). p.first) (sym (pair_with_number-sum c.args.number c.loop-sum.sum c.loop-sum.second c.loop-sum.invariant (omega arith)))

pub returns-clause-second : goal.returns-clause-second
returns-clause-second c =
    ap (λ (p : Pair). p.second) (sym (pair_with_number-sum c.args.number c.loop-sum.sum c.loop-sum.second c.loop-sum.invariant (omega arith)))
