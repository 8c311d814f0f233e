use Rattle.std.proofs.Common.{ap, arith, length}
use Rattle.aec_bits.specs.BitReader.{Cursor}
use Rattle.aec_bits.proofs.FromWordLemmas.{number_from}
use Rattle.aec_bits.proofs.bit_reader.BitReader.read_from.Goals as goal

pub returns-clause-bits : goal.returns-clause-bits
returns-clause-bits c =
    let pos = ap (λ (cursor : Cursor). cursor.pos) c.self.view_is in
    let len = ap (λ (cursor : Cursor). length cursor.list) c.self.view_is in
    number_from c.args.self.now c.args.gone c.args.width c.args.word c.part_of-value.result c.requires.word
    (omega (arith, c.if-from-len.false, c.from.ensures, c.len.ensures.value, pos, len)) c.requires.within c.part_of-value.ensures
