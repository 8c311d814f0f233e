use Rattle.std.proofs.Common.{◌≡◌, ◌+◌, ◌*◌, ◌^◌, take}
use Rattle.aec_params.specs.Codewords.{binary}
use Rattle.aec_bits.specs.WordBits.{word_bits}
use Rattle.aec_bits.specs.Windows.{StandsBefore}
use Rattle.aec_bits.proofs.bit_reader.windows.any_numbers_within.Given as goal

abbrev pub invariant-loop-i : goal.invariant-loop-i
invariant-loop-i l = record {
  left : l.window.left + l.width * l.i ≡ 64;
  word : l.window.word ≡ l.fn.word;
  read : StandsBefore (binary l.width) (2 ^ l.width) (take l.i l.numbers) (binary l.window.left l.window.word) (word_bits l.fn.word);
}
