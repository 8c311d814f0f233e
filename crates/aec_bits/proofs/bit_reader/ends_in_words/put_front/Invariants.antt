use Rattle.std.proofs.Common.{◌*◌, ◌≤◌}
use Rattle.aec_bits.specs.Ends.{HasEnds}
use Rattle.aec_bits.proofs.bit_reader.ends_in_words.put_front.Given as goal

abbrev pub invariant-loop-i : goal.invariant-loop-i
invariant-loop-i g l = record {
  ends : HasEnds l.word (8 * l.i) l.count l.ends;
  few : l.count ≤ 8 * l.i;
}
