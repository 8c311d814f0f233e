use Rattle.std.proofs.Common.{◌+◌, ◌-◌, ◌*◌, ◌/◌, ◌%◌, arith}
use Rattle.aec_bits.specs.Words.{bits_of_words}
use Rattle.aec_bits.proofs.WordLemmas.{length-bits_of_words}
use Rattle.aec_bits.proofs.ShiftLemmas.{copied_more}
use Rattle.aec_bits.proofs.words.copying.copy_bits.Goals as goal

pub returns : goal.returns
returns c =
    let at = c.args.at in
    let count = c.args.count in
    let head = (64 - at % 64) % 64 in
    let whole = (count - head) / 64 in
    let tail = (count - head) % 64 in
    let source = bits_of_words c.args.with.now in
    let old = bits_of_words c.args.words.now in
    let first = bits_of_words c.copy_chunk-2.new.words in
    let second = bits_of_words c.copy_words.new.words in
    record {
      bits = copied_more source old second (bits_of_words c.copy_chunk-3.new.words) 0 at (count - tail) tail (count - tail) (at + (count - tail)) count
          (omega arith) (omega arith) (omega arith) (omega (arith, length-bits_of_words c.args.with.now)) (omega (arith, length-bits_of_words c.args.words.now))
          (copied_more source old first second 0 at head (64 * whole) head (64 * ((at + head) / 64)) (count - tail) (omega arith) (omega arith) (omega arith)
          (omega (arith, length-bits_of_words c.args.with.now)) (omega (arith, length-bits_of_words c.args.words.now))
          c.copy_chunk-2.ensures.bits c.copy_words.ensures.bits) c.copy_chunk-3.ensures.bits;
      len = omega arith;
    }
