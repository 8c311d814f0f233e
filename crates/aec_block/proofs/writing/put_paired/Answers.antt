use Rattle.aec_block.proofs.WritingLemmas.{gathers-then, gathers-added, paired-parts}
use Rattle.aec_block.proofs.writing.put_paired.Goals as goal

pub returns : goal.returns
returns c =
    gathers-added _ _ _ _ _ _ (gathers-then _ _ _ _ _ _ _ c.put_head-head.ensures c.put_pairs.ensures) c.append_to.ensures
    (paired-parts c.args.params.now c.args.block.now c.args.id_len _ _ c.requires.prepared.id_len_is c.reference.ensures.value c.values.ensures.value)
