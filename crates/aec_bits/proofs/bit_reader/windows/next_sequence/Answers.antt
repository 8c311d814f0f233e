use Rattle.std.proofs.Common.{◌-◌, refl, arith}
use Rattle.aec_bits.proofs.GroupLemmas.{sequence_ones}
use Rattle.aec_bits.proofs.WindowLemmas.{top_below, without_top-lt, sequence_first}
use Rattle.aec_bits.proofs.bit_reader.windows.next_sequence.Goals as goal

pub overflow_sub-result : goal.overflow_sub-result
overflow_sub-result c =
    omega (arith, top_below c.args.window.word c.args.window.left c.top_one-top.result c.requires.fits c.top_one-top.ensures.least)

pub overflow_sub-result-2 : goal.overflow_sub-result-2
overflow_sub-result-2 c =
    omega (arith, top_below c.args.window.word c.args.window.left c.top_one-top.result c.requires.fits c.top_one-top.ensures.least)

pub returns-clause-first : goal.returns-clause-first
returns-clause-first c = record {
  stands = sequence_first c.args.window.word c.args.window.left c.top_one-top.result c.top_one-top.ensures.small c.requires.fits
      c.top_one-top.ensures.least c.top_one-top.ensures.most;
  left = omega (arith, top_below c.args.window.word c.args.window.left c.top_one-top.result c.requires.fits c.top_one-top.ensures.least);
  end = refl;
}

pub returns-clause-fits : goal.returns-clause-fits
returns-clause-fits c =
    without_top-lt c.args.window.word c.top_one-top.result c.top_one-top.ensures.small c.top_one-top.ensures.least c.top_one-top.ensures.most

pub returns-clause-ones : goal.returns-clause-ones
returns-clause-ones c =
    let top = c.top_one-top.result in
    let word = c.args.window.word in
    let most = c.top_one-top.ensures in
    sequence_ones c.args.window.left word (c.args.window.left - top - 1) top _ c.requires.fits
    (without_top-lt word top most.small most.least most.most)
    (sequence_first word c.args.window.left top most.small c.requires.fits most.least most.most)
