use Rattle.std.proofs.Common.{◌∙◌}
use Rattle.aec_c.proofs.BoundLemmas.{bits_fit, bytes_fit}
use Rattle.aec_c.proofs.bound.bound_within.Goals as goal

pub overflow_mul-bits-2 : goal.overflow_mul-bits-2
overflow_mul-bits-2 c =
    bits_fit c.args.params.now c.args.samples c.from-size.result c.from.result c.div_ceil-blocks.result c.block_size.ensures.allowed c.requires
    (c.from-size.ensures ∙ c.block_size.ensures.value) (c.from.ensures ∙ c.bits.ensures.value) c.div_ceil-blocks.ensures

pub overflow_add-result : goal.overflow_add-result
overflow_add-result c =
    bytes_fit c.args.params.now c.args.samples c.from-size.result c.from.result c.div_ceil-blocks.result c.from-2.result c.div_ceil.result
    c.div_ceil-2.result c.block_size.ensures.allowed c.requires (c.from-size.ensures ∙ c.block_size.ensures.value)
    (c.from.ensures ∙ c.bits.ensures.value) c.div_ceil-blocks.ensures c.div_ceil.ensures (c.from-2.ensures ∙ c.interval.ensures.value)
    c.div_ceil-2.ensures
