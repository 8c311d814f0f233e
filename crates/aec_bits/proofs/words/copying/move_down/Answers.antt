use Rattle.std.proofs.Common.{◌+◌, ◌-◌, ◌*◌, ◌/◌, ◌%◌, arith}
use Rattle.aec_bits.specs.Words.{bits_of_words}
use Rattle.aec_bits.proofs.WordLemmas.{length-bits_of_words}
use Rattle.aec_bits.proofs.ShiftLemmas.{moved_down_more}
use Rattle.aec_bits.proofs.words.copying.move_down.Goals as goal

pub returns : goal.returns
returns c =
    let from = c.args.from in
    let to = c.args.to in
    let count = c.args.count in
    let head = (64 - to % 64) % 64 in
    let whole = (count - head) / 64 in
    let tail = (count - head) % 64 in
    let old = bits_of_words c.args.words.now in
    let first = bits_of_words c.move_chunk-2.new.words in
    let second = bits_of_words c.move_words_down.new.words in
    record {
      bits = moved_down_more old second (bits_of_words c.move_chunk-3.new.words) from to (count - tail) tail (from + (count - tail)) (to + (count - tail)) count
          (omega arith) (omega arith) (omega arith) c.requires.order (omega (arith, length-bits_of_words c.args.words.now))
          (moved_down_more old first second from to head (64 * whole) (from + head) (64 * ((to + head) / 64)) (count - tail)
          (omega arith) (omega arith) (omega arith) c.requires.order (omega (arith, length-bits_of_words c.args.words.now))
          c.move_chunk-2.ensures.bits c.move_words_down.ensures.bits) c.move_chunk-3.ensures.bits;
      len = omega arith;
    }
