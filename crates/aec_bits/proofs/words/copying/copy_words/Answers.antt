use Rattle.std.proofs.Common.{◌+◌, ◌*◌, ◌/◌, ◌%◌, arith}
use Rattle.aec_bits.specs.Words.{bits_of_words}
use Rattle.aec_bits.proofs.WordLemmas.{length-bits_of_words}
use Rattle.aec_bits.proofs.ShiftLemmas.{copied_more}
use Rattle.aec_bits.proofs.words.copying.copy_words.Goals as goal

pub returns : goal.returns
returns c =
    let fours = c.args.count / 4 in
    record {
      bits = copied_more (bits_of_words c.args.with.now) (bits_of_words c.args.words.now) (bits_of_words c.copy_fours.new.words)
          (bits_of_words c.copy_each-2.new.words) c.args.from (64 * c.args.place) (256 * fours) (64 * (c.args.count % 4))
          (c.args.from + 256 * fours) (64 * (c.args.place + 4 * fours)) (64 * c.args.count)
          (omega arith) (omega arith) (omega arith) (omega (arith, length-bits_of_words c.args.with.now)) (omega (arith, length-bits_of_words c.args.words.now))
          c.copy_fours.ensures.bits c.copy_each-2.ensures.bits;
      len = omega arith;
    }
