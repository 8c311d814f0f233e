use Rattle.aec_bits.proofs.WordLemmas.{put_bits}
use Rattle.aec_bits.proofs.words.put_in_word.Goals as goal

pub returns : goal.returns
returns c =
    put_bits c.args.word c.args.at c.args.width c.args.value c.requires.part.within c.requires.part.some c.ranges.word.fits c.requires.fits
