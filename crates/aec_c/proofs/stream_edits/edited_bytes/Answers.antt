use Rattle.std.proofs.Common.{Some, ap, refl, ◌∙◌}
use Rattle.aec_c.proofs.StreamEditLemmas.{edited_uncounted, refused_uncounted, codes_many}
use Rattle.aec_c.proofs.stream_edits.edited_bytes.Goals as goal

pub returns-in-Ok-clause-ok : goal.returns-in-Ok-clause-ok
returns-in-Ok-clause-ok c =
    edited_uncounted c.args.params.now c.args.count _ _ c.args.script.now c.args.bytes.now c.requires.allowed c.new-from.ensures refl c.new-source.ensures refl
    _ c.into_inner.result.items _ (c.new-sink.ensures.taken ∙ ap Some c.new.ensures.items) c.into_inner.ensures
    (rw c.limits.ensures at c.in-Ok.ensures.leaves) refl

pub returns-in-Ok-clause-counted : goal.returns-in-Ok-clause-counted
returns-in-Ok-clause-counted c =
    codes_many c.args.params.now _ _ _ _ c.into_inner.result.items c.count.result c.in-Ok.ensures.format c.count.ensures.value c.count.ensures.held
    (c.new-sink.ensures.taken ∙ ap Some c.new.ensures.items) c.into_inner.ensures c.in-Ok.ensures.stream

pub returns-in-Err-clause-refuses : goal.returns-in-Err-clause-refuses
returns-in-Err-clause-refuses c =
    refused_uncounted c.args.params.now c.args.count _ _ c.args.script.now c.args.bytes.now c.requires.allowed c.new-from.ensures refl c.new-source.ensures refl
    _ _ c.in-Err.fault c.memory_for_write.result c.memory_for_write.ensures.memory c.memory_for_write.ensures.other
    (rw c.limits.ensures at c.in-Err.ensures.leaves) refl
