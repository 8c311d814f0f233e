use Rattle.std.proofs.Common.{◌+◌, refl, arith}
use Rattle.aec_edit.proofs.IndexLemmas.{over_more}
use Rattle.aec_edit.proofs.index.write_starts.Goals as goal

pub loop-k-preserved : goal.loop-k-preserved
loop-k-preserved c =
    over_more (λ x. c.args.base + x) c.args.starts.now c.args.with.now c.loop-k.starts c.args.at c.loop-k.k (c.args.at + c.loop-k.k) _
    (omega arith) (omega arith) refl c.loop-k.invariant refl
