use Rattle.std.proofs.Common.{drop}
use Rattle.aec_block.proofs.SevenLemmas.{low_of_seven}
use Rattle.aec_block.proofs.writing.after_reference.low_word_of_seven.Goals as goal

pub returns : goal.returns
returns c =
    low_of_seven c.args.width c.low_word.result c.args.all.now (drop 1 c.args.all.now) c.requires.seven.first c.requires.seven.eight c.low_word.ensures
