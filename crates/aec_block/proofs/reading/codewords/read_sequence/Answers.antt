use Rattle.std.proofs.Common.{rules}
use Rattle.aec_block.proofs.CursorLemmas.{sequence_taken}
use Rattle.aec_block.proofs.reading.codewords.read_sequence.Goals as goal

pub returns : goal.returns
returns c = record {
  taken = sequence_taken c.args.reader.now c.read_fs.new.self c.read_fs.result c.read_fs.ensures.bits c.read_fs.ensures.moves c.read_fs.ensures.refuses
      c.read_fs.ensures.stays.list;
  list = search rules;
  within = search rules;
}
