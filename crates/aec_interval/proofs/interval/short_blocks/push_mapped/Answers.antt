use Rattle.std.proofs.Common.{rules, arith, refl, pos, slice_index_or, ℤ, w64, FitsSigned, length-append}
use Rattle.std.proofs.lemmas.Int.{to_z-of_z}
use Rattle.aec_interval.proofs.ShortBlockLemmas.{mapped-more}
use Rattle.aec_interval.proofs.interval.short_blocks.push_mapped.Goals as goal

pub loop-i-preserved : goal.loop-i-preserved
loop-i-preserved c =
    let x : ℤ = slice_index_or c.args.samples.now c.loop-i.i (pos 0) in
    let fits : FitsSigned w64 (slice_index_or c.args.samples.now c.loop-i.i (pos 0)) = search rules in
    record {
      so_far = mapped-more c.args.params.now _ _ _ c.args.samples.now c.loop-i.i _ _ _ _ (omega arith) refl (to_z-of_z w64 x fits)
          c.loop-i.invariant.so_far c.map.ensures.value (rw c.push.ensures);
      len = grind (arith, length-append);
      reference = rw c.push.ensures c.loop-i.invariant.reference;
    }
