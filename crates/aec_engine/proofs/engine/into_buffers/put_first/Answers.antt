use Rattle.std.proofs.Common.{◌+◌, ◌*◌, ◌++◌, ◌∙◌, ◌≡◌, length, drop, arith, ap}
use Rattle.aec_params.specs.Params.{storage_len}
use Rattle.aec_engine.specs.Output.{all_stored}
use Rattle.aec_engine.proofs.FillLemmas.{length-all_stored}
use Rattle.aec_engine.proofs.KeptBufferLemmas.{only_not, only_front}
use Rattle.aec_engine.proofs.engine.into_buffers.put_first.Goals as goal

pub returns-then-size-out : goal.returns-then-size-out
returns-then-size-out c =
    only_not (all_stored c.args.params.now c.args.samples.now) c.args.out.now _
    (omega (arith, length-all_stored c.args.params.now c.args.samples.now, ap (λ w. w * length c.args.samples.now) c.storage.ensures.value))
    (omega (arith, c.if-size-out.true))

pub returns : goal.returns
returns c =
    let bytes = all_stored c.args.params.now c.args.samples.now in
    let size : 0 + storage_len c.args.params.now * length c.args.samples.now ≡ c.storage.result * length c.args.samples.now =
    omega (arith, ap (λ w. w * length c.args.samples.now) c.storage.ensures.value) in
    only_front bytes c.args.out.now _ _
    (omega (arith, length-all_stored c.args.params.now c.args.samples.now, ap (λ w. w * length c.args.samples.now) c.storage.ensures.value))
    (omega (arith, c.if-size-out.false))
    (c.put_behind-end.ensures.bytes ∙ ap (λ n. bytes ++ drop n c.args.out.now) size)
