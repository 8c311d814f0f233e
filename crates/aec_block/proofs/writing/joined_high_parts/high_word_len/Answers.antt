use Rattle.std.proofs.Common.{arith}
use Rattle.aec_block.proofs.LengthLemmas.{length-high_parts}
use Rattle.aec_block.proofs.writing.joined_high_parts.high_word_len.Goals as goal

pub returns : goal.returns
returns c = omega (arith, length-high_parts c.args.k c.args.values.now)
