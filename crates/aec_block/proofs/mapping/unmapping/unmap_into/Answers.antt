use Rattle.aec_block.proofs.mapping.unmapping.unmap_into.Goals as goal

pub returns-else-preprocess : goal.returns-else-preprocess
returns-else-preprocess c = c.put_patterns.ensures c.args.previous
