use Rattle.aec_bits.proofs.TopNumbersLemmas.{moved_lanes}
use Rattle.aec_bits.proofs.bit_reader.windows.top_numbers.Goals as goal

pub returns : goal.returns
returns c = moved_lanes c.args.width 4 c.args.halves.now c.args.powers.now c.requires c.told-halves c.told-powers
