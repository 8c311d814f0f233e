use Rattle.std.proofs.Common.{◌+◌, arith}
use Rattle.std.proofs.lemmas.Nat.{pow_below}
use Rattle.aec_bits.proofs.BitBufLemmas.{binary-one}
use Rattle.aec_bits.proofs.bit_buf.BitBuf.push_fs.Goals as goal

pub push_bits-requires : goal.push_bits-requires
push_bits-requires c = record { width = omega arith; fits = pow_below 0 (c.args.v + 1) (omega arith) }

pub returns-then-v-lt64 : goal.returns-then-v-lt64
returns-then-v-lt64 c = rw (binary-one c.args.v) at c.push_bits.ensures
