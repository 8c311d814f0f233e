use Rattle.std.proofs.Common.{◌≡◌, ◌+◌, ◌-◌, ◌*◌, set, refl, ◌∙◌, arith, rules}
use Rattle.aec_bits.specs.Words.{bits_of_words}
use Rattle.aec_bits.proofs.WordLemmas.{length-bits_of_words}
use Rattle.aec_bits.proofs.ShiftLemmas.{moved_up_more, word_written, same_stretch}
use Rattle.aec_bits.proofs.words.copying.move_each_up.Goals as goal

pub loop-left-preserved : goal.loop-left-preserved
loop-left-preserved c =
    let old = c.args.words.now in
    let now = c.loop-left.words in
    let left = c.loop-left.left - 1 in
    let word = c.args.place + left in
    let from = c.args.from + 64 * left in
    let n = 64 * (c.args.count - c.loop-left.left) in
    let total = 64 * (c.args.count - left) in
    let there : 64 * word ≡ 64 * c.args.place + 64 * left = omega arith in
    record {
      within = omega arith;
      bits = moved_up_more (bits_of_words old) (bits_of_words now) (bits_of_words (set now word c.word_at.result))
          from (64 * word) 64 n (c.args.from + 64 * c.loop-left.left) (64 * c.args.place + 64 * c.loop-left.left) total
          (omega arith) (omega arith) (omega arith) (omega arith) (omega (arith, length-bits_of_words old)) c.loop-left.invariant.bits
          (word_written now (bits_of_words now) word from c.word_at.result (omega arith) c.word_at.ensures)
          ∙ same_stretch (bits_of_words old) (bits_of_words old) from (64 * word) total from (64 * c.args.place + 64 * left) total refl there refl;
      len = search rules;
    }
