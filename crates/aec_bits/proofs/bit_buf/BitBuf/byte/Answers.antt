use Rattle.std.proofs.Common.{ap}
use Rattle.aec_bits.specs.BitBuf.{Bits}
use Rattle.aec_bits.proofs.BitBufLemmas.{byte_within}
use Rattle.aec_bits.proofs.bit_buf.BitBuf.byte.Goals as goal

pub returns : goal.returns
returns c =
    let words = c.self.inside.words in
    let same = ap (λ (b : Bits). b.list) c.self.view_is in
    rw (← same) (byte_within words.items c.self.inside.len c.args.i c.number_at.result c.self.invariant.1
    (rw same c.requires) c.number_at.ensures.fits (rw c.deref.ensures.value at c.number_at.ensures.bits))
