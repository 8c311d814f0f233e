use Rattle.std.proofs.Common.{◌≡◌, length, take, drop}
use Rattle.aec_params.specs.Codewords.{bytes_of}
use Rattle.aec_bits.proofs.writing.fill.Given as goal

abbrev pub invariant-loop-k : goal.invariant-loop-k
invariant-loop-k l = record {
  bytes : take l.k l.piece ≡ take l.k (drop l.first (bytes_of l.buf.list));
  len : length l.piece ≡ length l.initial.piece;
}
