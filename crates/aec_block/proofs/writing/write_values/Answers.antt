use Rattle.aec_block.proofs.ChoiceLemmas.{split-within}
use Rattle.aec_block.proofs.writing.write_values.Goals as goal

pub put_split-requires-clause-k : goal.put_split-requires-clause-k
put_split-requires-clause-k g c = split-within c.args.params.now c.args.block.now c.args.choice c.in-Split.k c.requires.choice c.in-Split.is
