use Rattle.std.proofs.Common.{rules}
use Rattle.aec_block.proofs.CursorLemmas.{number_taken}
use Rattle.aec_block.proofs.reading.codewords.read_number_from.Goals as goal

pub returns-clause-taken : goal.returns-clause-taken
returns-clause-taken c = record {
  taken = number_taken c.args.width c.args.reader.now c.read_from.new.self c.read_from.result c.read_from.ensures.fits c.read_from.ensures.bits
      c.read_from.ensures.takes.moves c.read_from.ensures.takes.refuses c.requires.within c.read_from.ensures.takes.list;
  list = search rules;
  within = search rules;
}
