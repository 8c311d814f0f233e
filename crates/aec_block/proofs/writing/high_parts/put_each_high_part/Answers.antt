use Rattle.std.proofs.Common.{◌+◌, ◌++◌, subst, arith, refl, ℕ}
use Rattle.aec_params.specs.Codewords.{fs}
use Rattle.aec_block.specs.Written.{GathersBits}
use Rattle.aec_block.proofs.WritingLemmas.{gathering-more, high_parts-drop}
use Rattle.aec_block.proofs.writing.high_parts.put_each_high_part.Goals as goal

pub loop-v-preserved : goal.loop-v-preserved
loop-v-preserved c =
    let step = subst (λ (v : ℕ). GathersBits (c.loop-v.gathered ++ fs v) c.loop-v.out c.put_fs-gathered.result c.put_fs-gathered.new.out)
    c.from.ensures c.put_fs-gathered.ensures in
    gathering-more _ _ _ _ _ _ _ _ _ c.loop-v.invariant
    (high_parts-drop c.args.k c.args.values.now c.loop-v.v-index (c.loop-v.v-index + 1) refl (omega arith)) step
