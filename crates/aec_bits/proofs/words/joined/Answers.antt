use Rattle.std.proofs.Common.{arith}
use Rattle.aec_bits.proofs.WordLemmas.{joined_bits}
use Rattle.aec_bits.proofs.words.joined.Goals as goal

pub returns : goal.returns
returns c = joined_bits c.args.first c.args.second c.args.at (omega arith) c.ranges.second.fits
