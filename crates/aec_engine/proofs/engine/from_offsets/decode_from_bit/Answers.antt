use Rattle.aec_engine.proofs.FromBitLemmas.{fills_ok}
use Rattle.aec_engine.proofs.engine.from_offsets.decode_from_bit.Goals as goal

pub returns-clause-ok : goal.returns-clause-ok
returns-clause-ok c =
    let terms = c.args.terms.now in
    fills_ok terms.params terms.limits terms.count c.args.coded.now c.args.bit c.in_ok-bits.bits.list c.in_ok-bits.ensures c.requires.short
    c.args.out.now c.decode_bits_into.new.out c.decode_bits_into.result c.decode_bits_into.ensures
