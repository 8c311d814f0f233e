use Rattle.std.proofs.Common.{ap, ◌∙◌}
use Rattle.aec_bits.specs.WordBits.{word_bits}
use Rattle.aec_bits.proofs.EndsLemmas.{top_of_window, top_ones}
use Rattle.aec_bits.proofs.bit_reader.windows.top_word.Goals as goal

pub returns-clause-bits : goal.returns-clause-bits
returns-clause-bits c =
    ap word_bits c.wrapping_shl.ensures ∙ top_of_window c.args.window.word c.args.window.left c.requires.size c.requires.fits

pub returns-clause-ones : goal.returns-clause-ones
returns-clause-ones c =
    top_ones c.args.window.word c.args.window.left c.wrapping_shl.result c.requires.fits c.wrapping_shl.type_inv (returns-clause-bits c)
