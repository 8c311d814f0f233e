use Rattle.std.proofs.Common.{◌≡◌, ◌*◌, length, take, drop}
use Rattle.aec_bits.specs.Words.{bits_of_words}
use Rattle.aec_bits.proofs.OverwriteLemmas.{overwritten}
use Rattle.aec_bits.proofs.words.copying.move_each_down.Given as goal

abbrev pub invariant-loop-i : goal.invariant-loop-i
invariant-loop-i l = record {
  bits : bits_of_words l.words
      ≡ overwritten (64 * l.place) (64 * l.i) (take (64 * l.i) (drop l.from (bits_of_words l.initial.words))) (bits_of_words l.initial.words);
  len : length l.words ≡ length l.initial.words;
}
