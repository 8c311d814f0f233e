use Rattle.aec_bits.proofs.TopNumbersLemmas.{eight_lanes}
use Rattle.aec_bits.proofs.bit_reader.windows.eight_numbers.Goals as goal

pub returns : goal.returns
returns c =
    eight_lanes c.args.word c.args.width c.half_from-half.result c.half_from-next.result c.powers_of-powers.result _ _ c.requires
    c.half_from-half.ensures c.half_from-next.ensures c.powers_of-powers.ensures c.top_numbers-first.ensures c.top_numbers-second.ensures
