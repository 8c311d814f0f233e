use Rattle.std.proofs.Common.{sym, ◌∙◌}
use Rattle.std.proofs.lemmas.Bool.{lt-ltb}
use Rattle.aec_block.proofs.PairTableLemmas.{small-below}
use Rattle.aec_block.proofs.reading.pairs.are_small.Goals as goal

pub returns-then-limit-gt10 : goal.returns-then-limit-gt10
returns-then-limit-gt10 c =
    lt-ltb 10 c.args.limit c.if-limit-gt10.true ∙ sym (small-below c.args.limit c.args.values.now c.if-limit-gt10.true c.requires.small)
