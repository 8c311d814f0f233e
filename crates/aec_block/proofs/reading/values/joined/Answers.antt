use Rattle.std.proofs.Common.{ap, ◌+◌, arith}
use Rattle.aec_block.proofs.JoiningLemmas.{joined_lt, shifted_whole}
use Rattle.aec_block.proofs.reading.values.joined.Goals as goal

pub overflow_add-result : goal.overflow_add-result
overflow_add-result c =
    omega (
      arith,
      shifted_whole c.args.k c.args.high c.args.low c.requires.shift c.requires.high c.requires.low,
      joined_lt 32 c.args.k c.args.high c.args.low (omega arith) c.requires.high c.requires.low,
    )

pub returns : goal.returns
returns c = ap (λ n. n + c.args.low) (shifted_whole c.args.k c.args.high c.args.low c.requires.shift c.requires.high c.requires.low)
