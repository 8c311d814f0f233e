use Rattle.aec_block.proofs.LowLemmas.{low_eight}
use Rattle.aec_block.proofs.mapping.unmapping.put_far.Goals as goal

pub put_low-requires-clause-low : goal.put_low-requires-clause-low
put_low-requires-clause-low c =
    low_eight c.args.params.now c.args.offset c.greatest_offset-top.result c.args.values.now c.greatest_offset-top.ensures.allowed
    c.greatest_offset-top.ensures.value c.requires.eight (c.are_low.ensures c.if-are_low.true)
