use Rattle.aec_block.proofs.LowWordLemmas.{eight_spell}
use Rattle.aec_block.proofs.writing.joined_low_parts.joined_eight.Goals as goal

pub returns : goal.returns
returns c =
    eight_spell c.args.width c.args.numbers.now c.from.result c.from-2.result c.requires.width c.told-numbers c.requires.small c.from.ensures c.from-2.ensures
