use Rattle.std.proofs.Common.{◌∙◌, length, take, refl, ap, rules}
use Rattle.aec_bits.proofs.TopNumbersLemmas.{top_numbers_stand}
use Rattle.aec_bits.proofs.bit_reader.windows.numbers_within.Goals as goal

pub returns-then-numbers-le8 : goal.returns-then-numbers-le8
returns-then-numbers-le8 c =
    let n = length c.args.numbers.now in
    record {
      stand = top_numbers_stand c.args.width n 8 c.args.word c.copy_from_slice.new.self c.args.numbers.now refl c.if-numbers-le8.true
          c.requires.there (c.copy_from_slice.ensures.after ∙ ap (take n) c.eight_numbers.ensures);
      len = search rules;
    }

pub returns-then-numbers-le4 : goal.returns-then-numbers-le4
returns-then-numbers-le4 c =
    let n = length c.args.numbers.now in
    record {
      stand = top_numbers_stand c.args.width n 4 c.args.word c.copy_from_slice-then-numbers-le4.new.self c.args.numbers.now refl
          c.if-numbers-le4.true c.requires.there
          (c.copy_from_slice-then-numbers-le4.ensures.after ∙ ap (take n) c.four_numbers.ensures);
      len = search rules;
    }
