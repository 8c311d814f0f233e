use Rattle.std.proofs.Common.{Err, inl, refl, subst, sym}
use Rattle.aec_params.specs.declared.fault.Fault.TheVariants.{Memory}
use Rattle.aec_engine.specs.Buffers.{FillsOne, OrMemory}
use Rattle.aec_engine.specs.Offsets.{IsDecodedAt}
use Rattle.aec_engine.proofs.BufferLemmas.{fills_refusal}
use Rattle.aec_engine.proofs.engine.from_offsets.decode_at_into.Goals as goal

pub returns-in-Err-Memory : goal.returns-in-Err-Memory
returns-in-Err-Memory c =
    let answers = OrMemory (IsDecodedAt c.args.params.now c.args.limits c.args.bit c.args.count c.args.coded.now) in
    let before = c.args.out.now in
    subst (λ after. FillsOne answers before after (Err Memory)) (sym c.in-Err-Memory.ensures.err)
    (fills_refusal answers before (Err Memory) Memory Memory refl refl (inl refl))
