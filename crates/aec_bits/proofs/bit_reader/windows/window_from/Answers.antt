use Rattle.std.proofs.Common.{refl}
use Rattle.aec_bits.proofs.WindowLemmas.{whole_window}
use Rattle.aec_bits.proofs.bit_reader.windows.window_from.Goals as goal

pub returns-clause-whole : goal.returns-clause-whole
returns-clause-whole c = record {
  window = whole_window c.args.buf.now.list c.word_from.result c.args.start c.requires c.word_from.ensures.bits;
  size = refl;
  place = refl;
}
