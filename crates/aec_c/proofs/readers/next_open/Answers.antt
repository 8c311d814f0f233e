use Rattle.std.proofs.Common.{◌≡◌, ◌*◌, length, ◌++◌, drop, refl, ap, ap₂, ◌∙◌, arith}
use Rattle.aec_params.specs.Params.{storage_len, interval_len}
use Rattle.aec_engine.specs.Output.{all_stored}
use Rattle.aec_c.specs.Standing.{Standing}
use Rattle.aec_c.specs.Readers.{not_read}
use Rattle.aec_c.proofs.ReaderLemmas.{fault_at, bytes-most, if_some, lacks_room, puts_next}
use Rattle.aec_c.proofs.readers.next_open.Goals as goal

pub returns-in-Err : goal.returns-in-Err
returns-in-Err c =
    not_read c.in-Err.fault (fault_at _ c.in-Err.fault _ c.in-Err.ensures.refuses c.in-Err.ensures.full c.args.made.now.has_room)
    refl refl c.refused.ensures

pub overflow_mul-size : goal.overflow_mul-size
overflow_mul-size c =
    let read = if_some _ c.in-Ok-Some.field-0 c.in-Ok-Some.end c.in-Ok-Some.field-0-is c.in-Ok-Some.ensures.read in
    let few = bytes-most c.params-params.result c.len.result c.storage.result c.params-params.ensures.allowed
    (omega (arith, read.few, c.len.ensures, ap interval_len c.params-params.ensures.settings)) c.storage.ensures.value in
    omega (arith, few)

pub returns-then-size-out : goal.returns-then-size-out
returns-then-size-out c =
    let many : c.len.result ≡ length c.peek.new.samples.items = omega (arith, c.len.ensures, c.peek.new.samples.ok) in
    lacks_room _ _ c.args.out.now c.too_long.result c.peek.new.samples.items _ (c.storage.result * c.len.result)
    (ap₂ (λ w n. w * n) (c.storage.ensures.value ∙ ap storage_len c.params-params.ensures.settings) many)
    (if_some _ c.in-Ok-Some.field-0 c.in-Ok-Some.end c.in-Ok-Some.field-0-is c.in-Ok-Some.ensures.read)
    refl (omega (arith, c.if-size-out.true)) c.too_long.ensures

pub returns : goal.returns
returns c =
    let many : c.len.result ≡ length c.peek.new.samples.items = omega (arith, c.len.ensures, c.peek.new.samples.ok) in
    puts_next _ _ c.args.out.now _ c.answered-2.result c.peek.new.samples.items _ (c.storage.result * c.len.result)
    (ap₂ (λ w n. w * n) (c.storage.ensures.value ∙ ap storage_len c.params-params.ensures.settings) many)
    (if_some _ c.in-Ok-Some.field-0 c.in-Ok-Some.end c.in-Ok-Some.field-0-is c.in-Ok-Some.ensures.read)
    (ap (λ (r : Standing). r.place) c.go_on.ensures) (omega (arith, c.if-size-out.false))
    (ap (λ l. l ++ drop (c.storage.result * c.len.result) c.args.out.now)
    (c.put_samples.ensures ∙ ap₂ (λ s xs. all_stored s xs) c.params-params.ensures.settings c.deref.ensures.value)) c.answered-2.ensures
