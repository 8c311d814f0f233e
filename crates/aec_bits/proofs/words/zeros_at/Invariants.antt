use Rattle.std.proofs.Common.{◌≡◌, ◌+◌, ◌-◌, ◌*◌, ◌<◌, ◌≤◌, ◌++◌, false, drop, replicate}
use Rattle.aec_bits.specs.Words.{bits_of_words}
use Rattle.aec_bits.proofs.words.zeros_at.Given as goal

abbrev pub invariant-loop-i : goal.invariant-loop-i
invariant-loop-i l = record {
  within : l.at < 64;
  past : l.start ≤ 64 * l.i + l.at;
  zeros : drop l.start (bits_of_words l.words) ≡ replicate (64 * l.i + l.at - l.start) false ++ drop (64 * l.i + l.at) (bits_of_words l.words);
}
