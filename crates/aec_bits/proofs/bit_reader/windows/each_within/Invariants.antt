use Rattle.std.proofs.Common.{count_ones, length, ◌≡◌, ◌+◌, ◌<◌, ◌≤◌, ◌^◌, take}
use Rattle.aec_params.specs.Codewords.{fs, binary}
use Rattle.aec_bits.specs.Windows.{StandsBefore}
use Rattle.aec_bits.proofs.bit_reader.windows.each_within.Given as goal

abbrev pub invariant-loop-i : goal.invariant-loop-i
invariant-loop-i l = record {
  size : l.rest.left ≤ l.fn.window.left;
  fits : l.rest.word < 2 ^ l.rest.left;
  ones : length l.numbers ≤ l.i + count_ones l.rest.word;
  end : l.rest.end ≡ l.fn.window.end;
  read : StandsBefore fs 64 (take l.i l.numbers) (binary l.rest.left l.rest.word) (binary l.fn.window.left l.fn.window.word);
}
