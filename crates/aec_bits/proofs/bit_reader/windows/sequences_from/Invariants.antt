use Rattle.std.proofs.Common.{◌*◌, take}
use Rattle.aec_bits.specs.Windows.{StandsBehind}
use Rattle.aec_bits.proofs.bit_reader.windows.sequences_from.Given as goal

abbrev pub invariant-loop-i : goal.invariant-loop-i
invariant-loop-i l = StandsBehind l.buf.list l.start (take (16 * l.i) l.numbers) l.window.word l.window.left l.window.end
