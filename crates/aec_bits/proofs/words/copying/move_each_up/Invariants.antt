use Rattle.std.proofs.Common.{◌≡◌, ◌≤◌, ◌+◌, ◌-◌, ◌*◌, length, take, drop}
use Rattle.aec_bits.specs.Words.{bits_of_words}
use Rattle.aec_bits.proofs.OverwriteLemmas.{overwritten}
use Rattle.aec_bits.proofs.words.copying.move_each_up.Given as goal

abbrev pub invariant-loop-left : goal.invariant-loop-left
invariant-loop-left l = record {
  within : l.left ≤ l.count;
  bits : bits_of_words l.words
      ≡ overwritten (64 * l.place + 64 * l.left) (64 * (l.count - l.left))
      (take (64 * (l.count - l.left)) (drop (l.from + 64 * l.left) (bits_of_words l.initial.words))) (bits_of_words l.initial.words);
  len : length l.words ≡ length l.initial.words;
}

abbrev pub decreases-loop-left : goal.decreases-loop-left
decreases-loop-left l = l.left
