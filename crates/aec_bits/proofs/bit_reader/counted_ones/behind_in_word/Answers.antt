use Rattle.std.proofs.Common.{◌∙◌}
use Rattle.aec_bits.proofs.OnesLemmas.{found_in_word}
use Rattle.aec_bits.proofs.bit_reader.counted_ones.behind_in_word.Goals as goal

pub returns-clause-place : goal.returns-clause-place
returns-clause-place c =
    let byte = c.half_with_one-of_8.result in
    found_in_word c.args.word c.args.nth byte.bits byte.nth byte.before c.behind_in_byte.result
    (c.half_with_one-of_32.ensures.same ∙ c.half_with_one-of_16.ensures.same ∙ c.half_with_one-of_8.ensures.same) c.behind_in_byte.ensures.place
