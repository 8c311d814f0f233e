use Rattle.std.proofs.Common.{◌+◌, ◌*◌, ◌≤◌, ◌++◌, take, vec_capacity}
use Rattle.aec_params.specs.Codewords.{bits_of_bytes}
use Rattle.aec_bits.specs.Words.{bits_of_words}
use Rattle.aec_bits.specs.Packed.{Keep}
use Rattle.aec_bits.proofs.words.octets.append_eights.Given as goal

abbrev pub invariant-loop-i : goal.invariant-loop-i
invariant-loop-i l = record {
  list : Keep l.words.items (l.len + 64 * l.i) (take l.len (bits_of_words l.initial.words.items) ++ bits_of_bytes (take (8 * l.i) l.bytes));
  capacity : vec_capacity l.initial.words ≤ vec_capacity l.words;
}
