use Rattle.std.proofs.Common.{length, ap, ◌∙◌, arith}
use Rattle.aec_bits.specs.BitBuf.{Bits}
use Rattle.aec_bits.proofs.PackedLemmas.{length-packed}
use Rattle.aec_bits.proofs.BitBufLemmas.{zeros_within, has_one_within}
use Rattle.aec_bits.proofs.bit_buf.BitBuf.zeros_before_one.Goals as goal

pub returns-clause-zeros : goal.returns-clause-zeros
returns-clause-zeros c =
    let words = c.self.inside.words in
    let len = c.self.inside.len in
    let same = ap (λ (b : Bits). b.list) c.self.view_is in
    let long = length-packed words.items len (omega (arith, c.self.invariant.1.0)) in
    record {
      cases = rw (← same, long) (zeros_within c.zeros_at.result words.items len c.args.start c.self.invariant.1
          (omega (arith, ap length same)) (rw c.deref.ensures.value at c.zeros_at.ensures.cases));
      some = rw (← same) ((rw c.deref.ensures.value at c.zeros_at.ensures.some)
          ∙ has_one_within words.items len c.args.start c.self.invariant.1 (omega (arith, ap length same)));
    }
