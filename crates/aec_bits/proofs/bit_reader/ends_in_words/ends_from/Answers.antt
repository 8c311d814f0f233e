use Rattle.aec_bits.proofs.EndsLemmas.{ends_in_lanes}
use Rattle.aec_bits.proofs.bit_reader.ends_in_words.ends_from.Goals as goal

pub returns : goal.returns
returns c = ends_in_lanes c.args.byte c.args.at c.row_of.result c.requires.byte c.requires.at c.row_of.ensures
