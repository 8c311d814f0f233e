use Rattle.std.proofs.Common.{◌+◌, ◌-◌, ◌*◌, ◌/◌, ◌%◌, arith}
use Rattle.aec_bits.specs.Words.{bits_of_words}
use Rattle.aec_bits.proofs.WordLemmas.{length-bits_of_words}
use Rattle.aec_bits.proofs.ShiftLemmas.{moved_up_more}
use Rattle.aec_bits.proofs.words.copying.move_up.Goals as goal

pub returns : goal.returns
returns c =
    let from = c.args.from in
    let to = c.args.to in
    let count = c.args.count in
    let tail = (to + count) % 64 in
    let whole = (count - tail) / 64 in
    let head = (count - tail) % 64 in
    let place = 64 * ((to + head) / 64) in
    let old = bits_of_words c.args.words.now in
    let first = bits_of_words c.move_chunk-2.new.words in
    let second = bits_of_words c.move_words_up.new.words in
    record {
      bits = moved_up_more old second (bits_of_words c.move_chunk-3.new.words) from to head (count - head) (from + head) place count
          (omega arith) (omega arith) (omega arith) c.requires.order (omega (arith, length-bits_of_words c.args.words.now))
          (moved_up_more old first second (from + head) place (64 * whole) tail (from + (count - tail)) (to + (count - tail)) (count - head)
          (omega arith) (omega arith) (omega arith) (omega arith) (omega (arith, length-bits_of_words c.args.words.now))
          c.move_chunk-2.ensures.bits c.move_words_up.ensures.bits) c.move_chunk-3.ensures.bits;
      len = omega arith;
    }
