use Rattle.std.proofs.Common.{arith, refl, sym, ◌∙◌}
use Rattle.byteorder.specs.Endian.{big_number, little_number}
use Rattle.aec_params.specs.Stored.{number_in}
use Rattle.aec_params.proofs.StoredListLemmas.{number_in-big, number_in-little, nothing_between, outside-none, past_bits}
use Rattle.aec_params.proofs.judging.are_all_good.Goals as goal

pub returns-then-high-low : goal.returns-then-high-low
returns-then-high-low c = λ _.
    outside-none c.args.params.now c.args.bytes.now (λ n g. number_in c.args.params.now g) c.storage-width.result _ c.least_extended-high.result
    c.storage-width.ensures.allowed (λ i. omega (arith, c.type_inv.bytes i)) c.storage-width.ensures.value
    (past_bits c.args.params.now c.bits.result c.storage-width.ensures.allowed c.bits.ensures.value) c.least_extended-high.ensures (λ g. refl)
    (nothing_between (number_in c.args.params.now) c.storage-width.result _ c.least_extended-high.result c.args.bytes.now c.if-high-low.true)

pub returns-then-msb_first : goal.returns-then-msb_first
returns-then-msb_first c = λ outside.
    outside-none c.args.params.now c.args.bytes.now big_number c.storage-width.result _ c.least_extended-high.result c.storage-width.ensures.allowed
    (λ i. omega (arith, c.type_inv.bytes i)) c.storage-width.ensures.value
    (past_bits c.args.params.now c.bits.result c.storage-width.ensures.allowed c.bits.ensures.value) c.least_extended-high.ensures
    (number_in-big c.args.params.now (sym c.msb_first.ensures ∙ c.if-msb_first.true)) (c.are_outside.ensures outside)

pub returns-else-msb_first : goal.returns-else-msb_first
returns-else-msb_first c = λ outside.
    outside-none c.args.params.now c.args.bytes.now little_number c.storage-width.result _ c.least_extended-high.result c.storage-width.ensures.allowed
    (λ i. omega (arith, c.type_inv.bytes i)) c.storage-width.ensures.value
    (past_bits c.args.params.now c.bits.result c.storage-width.ensures.allowed c.bits.ensures.value) c.least_extended-high.ensures
    (number_in-little c.args.params.now (sym c.msb_first.ensures ∙ c.if-msb_first.false)) (c.are_outside-else-msb_first.ensures outside)
