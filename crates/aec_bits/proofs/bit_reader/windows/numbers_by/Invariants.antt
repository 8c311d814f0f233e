use Rattle.std.proofs.Common.{◌≡◌, ◌+◌, ◌*◌, ◌^◌, take, drop}
use Rattle.aec_params.specs.Codewords.{binary}
use Rattle.aec_bits.specs.Windows.{StandsBefore}
use Rattle.aec_bits.proofs.bit_reader.windows.numbers_by.Given as goal

abbrev pub invariant-loop-i : goal.invariant-loop-i
invariant-loop-i g l = record {
  place : l.place ≡ l.start + l.width * (g.row.N * l.i);
  read : StandsBefore (binary l.width) (2 ^ l.width) (take (g.row.N * l.i) l.numbers) (drop l.place l.buf.list) (drop l.start l.buf.list);
}
