use Rattle.std.proofs.Common.{◌+◌, ◌-◌, ◌*◌, ◌/◌, ◌%◌, refl, ◌∙◌, arith}
use Rattle.aec_bits.specs.Words.{bits_of_words}
use Rattle.aec_bits.proofs.WordLemmas.{length-bits_of_words}
use Rattle.aec_bits.proofs.ShiftLemmas.{moved_up_more, same_stretch}
use Rattle.aec_bits.proofs.words.copying_fours.move_fours_up.Goals as goal

pub loop-left-preserved : goal.loop-left-preserved
loop-left-preserved c =
    let old = bits_of_words c.args.words.now in
    let left = c.loop-left.left - 1 in
    let from = 64 * (c.args.from / 64 + 4 * left) + c.args.from % 64 in
    let to = 64 * (c.args.place + 4 * left) in
    let total = 256 * (c.args.fours - left) in
    record {
      within = omega arith;
      bits = moved_up_more old (bits_of_words c.loop-left.words) (bits_of_words c.move_four.new.words)
          from to 256 (256 * (c.args.fours - c.loop-left.left)) (c.args.from + 256 * c.loop-left.left) (64 * c.args.place + 256 * c.loop-left.left) total
          (omega arith) (omega arith) (omega arith) (omega arith) (omega (arith, length-bits_of_words c.args.words.now))
          c.loop-left.invariant.bits c.move_four.ensures.bits
          ∙ same_stretch old old from to total (c.args.from + 256 * left) (64 * c.args.place + 256 * left) total (omega arith) (omega arith) refl;
      len = omega arith;
    }
