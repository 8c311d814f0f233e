use Rattle.std.proofs.Common.{take, arith}
use Rattle.std.proofs.lemmas.List.{length-take-le}
use Rattle.aec_bits.proofs.EndsLemmas.{sixteen_in_lanes}
use Rattle.aec_bits.proofs.bit_reader.ends_in_words.sixteen_gaps.Goals as goal

pub returns : goal.returns
returns c = sixteen_in_lanes (take 16 c.args.ends.now) (length-take-le 16 c.args.ends.now (omega (arith, c.told-ends)))
