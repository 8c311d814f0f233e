use Rattle.std.proofs.Common.{◌+◌, length, sym, ◌∙◌}
use Rattle.std.proofs.lemmas.Bool.{lt-ltb}
use Rattle.aec_block.proofs.SkippingLemmas.{short-below}
use Rattle.aec_block.proofs.reading.values.are_short.Goals as goal

pub returns-then-gone-limit : goal.returns-then-gone-limit
returns-then-gone-limit c =
    lt-ltb c.args.gone (c.args.limit + length c.args.values.now) c.if-gone-limit.true
    ∙ sym (short-below c.args.limit c.args.gone c.args.values.now c.requires.gone c.if-gone-limit.true)
