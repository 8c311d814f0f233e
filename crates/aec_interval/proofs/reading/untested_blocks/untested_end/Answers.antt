use Rattle.std.proofs.Common.{rules, ◌-◌, arith}
use Rattle.aec_interval.proofs.UntestedLemmas.{untested-within}
use Rattle.aec_interval.proofs.reading.untested_blocks.untested_end.Goals as goal

pub returns-then-saturating_mul-samples : goal.returns-then-saturating_mul-samples
returns-then-saturating_mul-samples c =
    let s = c.args.params.now in
    let last = c.args.end - c.from.result in
    untested-within s _ _ _ c.args.end c.from.result last c.block_size.ensures.allowed c.requires.limit c.requires.counted c.requires.end (search rules)
    (omega arith) (grind arith)

pub returns : goal.returns
returns c =
    let s = c.args.params.now in
    let last = c.min.result in
    untested-within s _ _ _ c.args.end c.from.result last c.block_size.ensures.allowed c.requires.limit c.requires.counted c.requires.end (search rules)
    (search rules) (grind arith)
