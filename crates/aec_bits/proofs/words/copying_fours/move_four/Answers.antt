use Rattle.std.proofs.Common.{arith, rules}
use Rattle.aec_bits.proofs.LaneLemmas.{stored_four}
use Rattle.aec_bits.proofs.words.copying_fours.move_four.Goals as goal

pub returns : goal.returns
returns c = record {
  bits = stored_four c.args.words.now c.joined_four.result c.args.place _ c.joined_four.ensures.len (omega arith) c.joined_four.ensures.bits;
  len = search rules;
}
