use Rattle.std.proofs.Common.{◌+◌, ◌*◌, set, arith, rules}
use Rattle.aec_bits.specs.Words.{bits_of_words}
use Rattle.aec_bits.proofs.WordLemmas.{length-bits_of_words}
use Rattle.aec_bits.proofs.ShiftLemmas.{copied_more, word_written}
use Rattle.aec_bits.proofs.words.copying.copy_each.Goals as goal

pub loop-i-preserved : goal.loop-i-preserved
loop-i-preserved c =
    let source = bits_of_words c.args.with.now in
    let old = c.args.words.now in
    let now = c.loop-i.words in
    let i = c.loop-i.i in
    let word = c.args.place + i in
    record {
      bits = copied_more source (bits_of_words old) (bits_of_words now) (bits_of_words (set now word c.word_at.result))
          c.args.from (64 * c.args.place) (64 * i) 64 (c.args.from + 64 * i) (64 * word) (64 * (i + 1)) (omega arith) (omega arith) (omega arith)
          (omega (arith, length-bits_of_words c.args.with.now)) (omega (arith, length-bits_of_words old)) c.loop-i.invariant.bits
          (word_written now source word (c.args.from + 64 * i) c.word_at.result (omega arith) c.word_at.ensures);
      len = search rules;
    }
