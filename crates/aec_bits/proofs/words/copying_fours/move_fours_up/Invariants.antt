use Rattle.std.proofs.Common.{◌≡◌, ◌≤◌, ◌+◌, ◌-◌, ◌*◌, length}
use Rattle.aec_bits.specs.Words.{bits_of_words}
use Rattle.aec_bits.proofs.ShiftLemmas.{stretched}
use Rattle.aec_bits.proofs.words.copying_fours.move_fours_up.Given as goal

abbrev pub invariant-loop-left : goal.invariant-loop-left
invariant-loop-left l = record {
  within : l.left ≤ l.fours;
  bits : bits_of_words l.words
      ≡ stretched (l.from + 256 * l.left) (64 * l.place + 256 * l.left) (256 * (l.fours - l.left))
      (bits_of_words l.initial.words) (bits_of_words l.initial.words);
  len : length l.words ≡ length l.initial.words;
}

abbrev pub decreases-loop-left : goal.decreases-loop-left
decreases-loop-left l = l.left
