use Rattle.aec_block.proofs.WritingLemmas.{gathers-then, gathers-added, uncompressed-parts}
use Rattle.aec_block.proofs.writing.put_uncompressed.Goals as goal

pub returns : goal.returns
returns c =
    gathers-added _ _ _ _ _ _ (gathers-then _ _ _ _ _ _ _ c.put_head-head.ensures c.put_low_parts.ensures) c.append_to.ensures
    (uncompressed-parts c.args.params.now c.args.block.now c.args.id_len c.bits.result c.reference.result c.args.values.now
    c.requires.prepared.full c.requires.prepared.id_len_is c.bits.ensures.value c.reference.ensures.value c.requires.prepared.written)
