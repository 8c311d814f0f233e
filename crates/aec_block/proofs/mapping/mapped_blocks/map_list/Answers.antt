use Rattle.std.proofs.Common.{sym, ◌∙◌}
use Rattle.aec_block.proofs.ListMappingLemmas.{mapped_after-patterns}
use Rattle.aec_block.proofs.mapping.mapped_blocks.map_list.Goals as goal

pub returns-else-preprocess : goal.returns-else-preprocess
returns-else-preprocess c =
    c.put_patterns.ensures ∙ sym (mapped_after-patterns c.args.params.now c.args.previous c.args.samples.now (cc))
