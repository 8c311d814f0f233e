use Rattle.std.proofs.Common.{◌+◌, ◌-◌, ◌*◌, ◌/◌, ◌≡◌, length, take, drop, ap, ap₂, ◌∙◌, arith}
use Rattle.std.specs.List.{flat_map}
use Rattle.std.specs.Int.{bytes_high_first}
use Rattle.aec_params.specs.Codewords.{bytes_of}
use Rattle.aec_bits.specs.BitBuf.{Bits}
use Rattle.aec_bits.proofs.EightLemmas.{bytes_of-words}
use Rattle.aec_bits.proofs.bit_buf.BitBuf.put_words.Goals as goal

pub returns : goal.returns
returns c =
    let words = c.self.inside.words in
    let n = length c.args.piece.now in
    let first = c.args.first in
    let same = ap (λ (b : Bits). b.list) c.self.view_is in
    let count : first + n / 8 - first ≡ n / 8 = omega arith in
    c.write_u64_into.ensures
    ∙ ap₂ (λ ws k. flat_map (bytes_high_first 8) (take k (drop first ws))) c.deref.ensures.value count
    ∙ bytes_of-words words.items c.self.inside.len first (n / 8) n c.self.invariant.1 (omega (arith, c.requires.eights)) (rw same c.requires.within)
    ∙ ap (λ l. take n (drop (8 * first) (bytes_of l))) same
