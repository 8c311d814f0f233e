use Rattle.std.proofs.Common.{length, ap, ◌∙◌, arith}
use Rattle.aec_bits.specs.BitBuf.{Bits}
use Rattle.aec_bits.proofs.PackedLemmas.{length-packed}
use Rattle.aec_bits.proofs.WindowLemmas.{bits_from-packed}
use Rattle.aec_bits.proofs.bit_buf.BitBuf.word_from.Goals as goal

pub returns-clause-bits : goal.returns-clause-bits
returns-clause-bits c =
    let words = c.self.inside.words in
    let len = c.self.inside.len in
    let same = ap (λ (b : Bits). b.list) c.self.view_is in
    let long = length-packed words.items len (omega (arith, c.self.invariant.1.0)) in
    rw (← same) ((rw c.deref.ensures.value at c.padded_word_at.ensures)
    ∙ bits_from-packed words.items len c.args.start c.self.invariant.1 (omega (arith, ap length same)))
