use Rattle.std.proofs.Common.{rules}
use Rattle.aec_block.proofs.SkippingLemmas.{numbers_gone_over}
use Rattle.aec_block.proofs.skipping.skipped_values.skip_numbers.Goals as goal

pub returns : goal.returns
returns c = record {
  taken = numbers_gone_over c.args.width c.args.count c.numbers_len.result c.args.reader.now c.skip_bits.new.self c.skip_bits.result c.numbers_len.ensures
      c.skip_bits.ensures.moves c.skip_bits.ensures.refuses c.requires.within c.skip_bits.ensures.list;
  list = search rules;
  within = search rules;
}
