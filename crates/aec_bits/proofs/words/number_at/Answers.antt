use Rattle.std.proofs.Common.{◌/◌, ◌%◌, arith}
use Rattle.aec_bits.specs.Words.{bits_of_words}
use Rattle.aec_bits.proofs.WordLemmas.{number_in_word, word_across, number_in_front}
use Rattle.aec_bits.proofs.words.number_at.Goals as goal

pub returns-then-at-width-le64 : goal.returns-then-at-width-le64
returns-then-at-width-le64 c = record {
  fits = c.part_of.ensures.fits;
  bits = number_in_word c.args.words.now c.args.start (c.args.start / 64) (c.args.start % 64) c.args.width 0 c.part_of.result
      (omega arith) (omega arith) (omega arith) c.part_of.ensures.bits;
}

pub returns : goal.returns
returns c =
    let words = c.args.words.now in
    let start = c.args.start in
    let there = word_across words start (start / 64) (start % 64) 0 c.joined.result (omega arith) (omega arith) (omega arith) c.joined.ensures in
    record {
      fits = c.part_of-2.ensures.fits;
      bits = number_in_front (bits_of_words words) start c.args.width c.joined.result c.part_of-2.result there c.part_of-2.ensures.bits;
    }
