use Rattle.std.proofs.Common.{◌-◌, ◌*◌, ◌≤◌}
use Rattle.aec_bits.specs.Ends.{HasEnds}
use Rattle.aec_bits.proofs.bit_reader.ends_in_words.put_count.Given as goal

abbrev pub invariant-loop-found : goal.invariant-loop-found
invariant-loop-found g l = record {
  ends : HasEnds l.word (8 * l.i) l.found l.ends;
  few : l.found ≤ 8 * l.i;
  bytes : l.i ≤ 8;
}

abbrev pub decreases-loop-found : goal.decreases-loop-found
decreases-loop-found g l = 8 - l.i
