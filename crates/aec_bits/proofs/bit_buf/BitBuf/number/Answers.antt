use Rattle.std.proofs.Common.{length, ap, arith}
use Rattle.aec_bits.specs.BitBuf.{Bits}
use Rattle.aec_bits.proofs.PackedLemmas.{length-packed}
use Rattle.aec_bits.proofs.BitBufLemmas.{number_within}
use Rattle.aec_bits.proofs.bit_buf.BitBuf.number.Goals as goal

pub returns : goal.returns
returns c =
    let words = c.self.inside.words in
    let same = ap (λ (b : Bits). b.list) c.self.view_is in
    record {
      fits = c.number_at.ensures.fits;
      bits = rw (← same) (number_within words.items c.self.inside.len c.args.start c.args.width c.number_at.result
          (omega (arith, words.ok.0, ap length same, length-packed words.items c.self.inside.len, c.self.invariant.1.0))
          (rw c.deref.ensures.value at c.number_at.ensures.bits));
    }
