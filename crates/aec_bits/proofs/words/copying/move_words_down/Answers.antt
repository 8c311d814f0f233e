use Rattle.std.proofs.Common.{◌+◌, ◌*◌, ◌/◌, ◌%◌, arith}
use Rattle.aec_bits.specs.Words.{bits_of_words}
use Rattle.aec_bits.proofs.WordLemmas.{length-bits_of_words}
use Rattle.aec_bits.proofs.ShiftLemmas.{moved_down_more}
use Rattle.aec_bits.proofs.words.copying.move_words_down.Goals as goal

pub returns : goal.returns
returns c =
    let fours = c.args.count / 4 in
    record {
      bits = moved_down_more (bits_of_words c.args.words.now) (bits_of_words c.move_fours_down.new.words) (bits_of_words c.move_each_down-2.new.words)
          c.args.from (64 * c.args.place) (256 * fours) (64 * (c.args.count % 4)) (c.args.from + 256 * fours)
          (64 * (c.args.place + 4 * fours)) (64 * c.args.count) (omega arith) (omega arith) (omega arith)
          c.requires.order (omega (arith, length-bits_of_words c.args.words.now))
          c.move_fours_down.ensures.bits c.move_each_down-2.ensures.bits;
      len = omega arith;
    }
