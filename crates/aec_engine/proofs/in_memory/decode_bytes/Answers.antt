use Rattle.std.proofs.Common.{Some, ap, refl, ◌∙◌}
use Rattle.aec_engine.proofs.InMemoryLemmas.{decoded_in_memory, undecoded_in_memory}
use Rattle.aec_engine.proofs.in_memory.decode_bytes.Goals as goal

pub returns-in-Ok-clause-ok : goal.returns-in-Ok-clause-ok
returns-in-Ok-clause-ok c =
    decoded_in_memory c.args.params.now c.args.limits c.args.count _ _ c.args.coded.now c.into_inner.result.items
    c.new-source.ensures refl (c.new-sink.ensures.taken ∙ ap Some c.new.ensures.items) c.into_inner.ensures c.in-Ok.ensures

pub returns-in-Err-clause-refuses : goal.returns-in-Err-clause-refuses
returns-in-Err-clause-refuses c =
    undecoded_in_memory c.args.params.now c.args.limits c.args.count _ _ c.args.coded.now c.in-Err.fault c.memory_for_write.result
    c.new-source.ensures refl c.memory_for_write.ensures.memory c.memory_for_write.ensures.other c.in-Err.ensures
