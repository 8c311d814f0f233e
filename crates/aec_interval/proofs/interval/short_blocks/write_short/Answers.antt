use Rattle.aec_interval.proofs.interval.short_blocks.write_short.Goals as goal

pub returns : goal.returns
returns c = rw c.filled_block-block.ensures.value at c.take_block.ensures
