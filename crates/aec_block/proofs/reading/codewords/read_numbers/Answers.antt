use Rattle.std.proofs.Common.{rules}
use Rattle.aec_block.proofs.CursorLemmas.{numbers_taken}
use Rattle.aec_block.proofs.reading.codewords.read_numbers.Goals as goal

pub returns-clause-put : goal.returns-clause-put
returns-clause-put c = record {
  taken = numbers_taken c.args.width c.args.reader.now c.read_numbers.new.self c.args.numbers.now c.read_numbers.new.numbers c.read_numbers.result
      c.read_numbers.ensures.bits c.read_numbers.ensures.below c.read_numbers.ensures.takes.refuses c.read_numbers.ensures.len c.requires.within
      c.read_numbers.ensures.takes.list;
  len = search rules;
  list = search rules;
  within = search rules;
}
