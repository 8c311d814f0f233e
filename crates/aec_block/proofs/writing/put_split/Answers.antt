use Rattle.aec_block.proofs.WritingLemmas.{gathers-then, gathers-added, split-parts}
use Rattle.aec_block.proofs.writing.put_split.Goals as goal

pub returns : goal.returns
returns c =
    gathers-added _ _ _ _ _ _ (gathers-then _ _ _ _ _ _ _ c.put_head-head.ensures c.put_written.ensures) c.append_to.ensures
    (split-parts c.args.params.now c.args.block.now c.args.k c.args.id_len _ c.args.values.now c.requires.prepared.id_len_is
    c.reference.ensures.value c.requires.prepared.written)
