use Rattle.std.proofs.Common.{arith}
use Rattle.std.proofs.lemmas.Nat.{one_shl}
use Rattle.aec_bits.proofs.TopNumbersLemmas.{four_lanes}
use Rattle.aec_bits.proofs.bit_reader.windows.four_numbers.Goals as goal

pub returns : goal.returns
returns c =
    four_lanes c.args.word c.args.width c.half_from-half.result c.half_from-next.result _ _ c.requires
    c.half_from-half.ensures c.half_from-next.ensures (one_shl c.args.width 32 (omega (arith, c.requires))) c.top_numbers.ensures
