use Rattle.std.proofs.Common.{◌/◌, ◌%◌, arith}
use Rattle.aec_bits.proofs.WordLemmas.{word_across}
use Rattle.aec_bits.proofs.ShiftLemmas.{word_there}
use Rattle.aec_bits.proofs.words.word_at.Goals as goal

pub returns-then-at-eq0 : goal.returns-then-at-eq0
returns-then-at-eq0 c = word_there c.args.words.now c.args.start (c.args.start / 64) 0 (omega arith) (omega arith)

pub returns : goal.returns
returns c =
    word_across c.args.words.now c.args.start (c.args.start / 64) (c.args.start % 64) 0 c.joined.result
    (omega arith) (omega arith) (omega arith) c.joined.ensures
