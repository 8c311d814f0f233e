use Rattle.std.proofs.Common.{refl, arith}
use Rattle.aec_bits.proofs.WindowLemmas.{number_first}
use Rattle.aec_bits.proofs.bit_reader.windows.next_number.Goals as goal

pub returns-clause-first : goal.returns-clause-first
returns-clause-first c = record {
  stands = rw c.wrapping_shr.ensures (number_first c.args.window.word c.args.window.left c.args.width c.requires.there c.requires.size c.requires.width);
  left = omega arith;
  end = refl;
}
