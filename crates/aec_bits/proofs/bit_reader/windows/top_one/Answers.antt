use Rattle.aec_bits.proofs.WindowLemmas.{top_place}
use Rattle.aec_bits.proofs.bit_reader.windows.top_one.Goals as goal

pub returns : goal.returns
returns c = record {
  least = (top_place c.args.word c.requires c.ranges.word.fits).1;
  most = (top_place c.args.word c.requires c.ranges.word.fits).2;
  small = (top_place c.args.word c.requires c.ranges.word.fits).0;
}
