use Rattle.std.proofs.Common.{rules}
use Rattle.aec_block.proofs.CursorLemmas.{number_taken}
use Rattle.aec_block.proofs.reading.codewords.read_number.Goals as goal

pub returns-clause-taken : goal.returns-clause-taken
returns-clause-taken c = record {
  taken = number_taken c.args.width c.args.reader.now c.read.new.self c.read.result c.read.ensures.fits c.read.ensures.bits c.read.ensures.takes.moves
      c.read.ensures.takes.refuses c.requires.within c.read.ensures.takes.list;
  list = search rules;
  within = search rules;
}
