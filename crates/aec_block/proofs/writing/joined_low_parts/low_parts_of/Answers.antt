use Rattle.aec_block.proofs.LowWordLemmas.{masked_eight}
use Rattle.aec_block.proofs.writing.joined_low_parts.low_parts_of.Goals as goal

pub returns : goal.returns
returns c = masked_eight c.args.width c.args.values.now c.requires.width c.requires.eight
