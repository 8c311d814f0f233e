use Rattle.std.proofs.Common.{refl, arith}
use Rattle.aec_bits.proofs.GroupLemmas.{begins_word}
use Rattle.aec_bits.proofs.bit_reader.windows.any_numbers_within.Goals as goal

pub loop-i-init : goal.loop-i-init
loop-i-init c = record { left = omega arith; word = refl; read = begins_word c.args.width c.args.word }
