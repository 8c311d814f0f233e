use Rattle.std.proofs.Common.{◌-◌, take}
use Rattle.aec_bits.specs.Windows.{StandsBehind}
use Rattle.aec_bits.proofs.bit_reader.windows.sequences_one_by_one.Given as goal

abbrev pub invariant-loop-number : goal.invariant-loop-number
invariant-loop-number l =
    StandsBehind l.buf.list (l.fn.window.end - l.fn.window.left) (take l.number-index l.numbers) l.rest.word l.rest.left l.rest.end
