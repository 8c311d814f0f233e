use Rattle.std.proofs.Common.{rules}
use Rattle.aec_block.specs.Gathering.{bits_at}
use Rattle.aec_block.proofs.ReadCdsLemmas.{plain_body}
use Rattle.aec_block.proofs.reading.read_body.Goals as goal

pub returns-in_ok-fill_uncompressed-in-NoCompression : goal.returns-in_ok-fill_uncompressed-in-NoCompression
returns-in_ok-fill_uncompressed-in-NoCompression c = record {
  taken = plain_body c.args.params.now c.args.reference c.args.kind (bits_at c.args.reader.now) (bits_at c.fill_uncompressed.new.reader)
      c.fill_uncompressed.new.block c.in-NoCompression.is c.in_ok-fill_uncompressed-in-NoCompression.ensures.taken;
  list = search rules;
  within = search rules;
}
