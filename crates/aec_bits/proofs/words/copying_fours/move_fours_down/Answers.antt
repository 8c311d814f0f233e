use Rattle.std.proofs.Common.{◌+◌, ◌*◌, ◌/◌, ◌%◌, arith}
use Rattle.aec_bits.specs.Words.{bits_of_words}
use Rattle.aec_bits.proofs.WordLemmas.{length-bits_of_words}
use Rattle.aec_bits.proofs.ShiftLemmas.{moved_down_more}
use Rattle.aec_bits.proofs.words.copying_fours.move_fours_down.Goals as goal

pub loop-i-preserved : goal.loop-i-preserved
loop-i-preserved c =
    let from = c.args.from in
    let i = c.loop-i.i in
    record {
      bits = moved_down_more (bits_of_words c.args.words.now) (bits_of_words c.loop-i.words) (bits_of_words c.move_four.new.words)
          from (64 * c.args.place) (256 * i) 256 (64 * (from / 64 + 4 * i) + from % 64) (64 * (c.args.place + 4 * i)) (256 * (i + 1))
          (omega arith) (omega arith) (omega arith) c.requires.order (omega (arith, length-bits_of_words c.args.words.now))
          c.loop-i.invariant.bits c.move_four.ensures.bits;
      len = omega arith;
    }
