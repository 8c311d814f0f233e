use Rattle.std.proofs.Common.{◌≡◌, ◌+◌, ◌-◌, ◌/◌, ◌%◌, arith, rules}
use Rattle.std.proofs.lemmas.Nat.{shr_below}
use Rattle.aec_params.specs.Codewords.{binary}
use Rattle.aec_bits.proofs.WordLemmas.{put_in_words, put_across, low_part}
use Rattle.aec_bits.proofs.words.put_number.Goals as goal

pub put_in_word-first-requires-clause-fits : goal.put_in_word-first-requires-clause-fits
put_in_word-first-requires-clause-fits c =
    let over = c.args.start % 64 + c.args.width - 64 in
    let whole : c.args.width ≡ c.args.width - over + over = omega arith in
    shr_below c.args.value (c.args.width - over) over (rw whole at c.requires.number.fits)

pub returns-then-at-width-le64 : goal.returns-then-at-width-le64
returns-then-at-width-le64 c = record {
  bits = put_in_words c.args.words.now c.args.start (c.args.start / 64) (c.args.start % 64) c.args.width 0 c.put_in_word.result
      (binary c.args.width c.args.value) (omega arith) (omega arith) (omega arith) c.put_in_word.ensures;
  len = search rules;
}

pub returns : goal.returns
returns c = record {
  bits = put_across c.args.words.now c.args.start (c.args.start / 64) (c.args.start % 64) c.args.width (c.args.start % 64 + c.args.width - 64) 0
      c.put_in_word-first.result c.put_in_word-second.result c.args.value _ (low_part c.args.value (c.args.start % 64 + c.args.width - 64) (omega arith))
      (omega arith) (omega arith) (omega arith) (omega arith) (omega arith)
      c.put_in_word-first.ensures c.put_in_word-second.ensures;
  len = search rules;
}
