use Rattle.std.proofs.Common.{◌∙◌, ap}
use Rattle.aec_params.proofs.ParamsLemmas.{low_bits-held, value-pattern}
use Rattle.aec_params.specs.Params.{pattern_value}
use Rattle.aec_params.proofs.params.Params.pattern.Goals as goal

pub returns-clause-value : goal.returns-clause-value
returns-clause-value c =
    low_bits-held c.args.self.now c.args.x c.cast_unsigned.result c.bits.result c.bits.ensures.allowed c.requires c.ranges.x
    c.cast_unsigned.ensures c.bits.ensures.value

pub returns-clause-undone : goal.returns-clause-undone
returns-clause-undone c =
    ap (pattern_value c.args.self.now)
    (low_bits-held c.args.self.now c.args.x c.cast_unsigned.result c.bits.result c.bits.ensures.allowed c.requires c.ranges.x
    c.cast_unsigned.ensures c.bits.ensures.value)
    ∙ value-pattern c.args.self.now c.args.x c.bits.ensures.allowed c.requires
