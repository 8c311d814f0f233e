use Rattle.std.proofs.Common.{◌≡◌, ◌*◌, length}
use Rattle.aec_bits.specs.Words.{bits_of_words}
use Rattle.aec_bits.proofs.ShiftLemmas.{stretched}
use Rattle.aec_bits.proofs.words.copying_fours.copy_fours.Given as goal

abbrev pub invariant-loop-i : goal.invariant-loop-i
invariant-loop-i l = record {
  bits : bits_of_words l.words ≡ stretched l.from (64 * l.place) (256 * l.i) (bits_of_words l.with) (bits_of_words l.initial.words);
  len : length l.words ≡ length l.initial.words;
}
