use Rattle.aec_bits.proofs.WordLemmas.{part-lt, part_bits}
use Rattle.aec_bits.proofs.words.part_of.Goals as goal

pub returns : goal.returns
returns c = record {
  fits = part-lt c.args.word c.args.at c.args.width c.requires.within;
  bits = part_bits c.args.word c.args.at c.args.width c.requires.within;
}
