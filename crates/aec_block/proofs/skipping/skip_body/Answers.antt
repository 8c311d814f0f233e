use Rattle.std.proofs.Common.{rules}
use Rattle.aec_block.specs.Gathering.{bits_at}
use Rattle.aec_block.proofs.SkippingLemmas.{uncompressed_body, split_body}
use Rattle.aec_block.proofs.skipping.skip_body.Goals as goal

pub returns-in_ok-skip_uncompressed-in-NoCompression : goal.returns-in_ok-skip_uncompressed-in-NoCompression
returns-in_ok-skip_uncompressed-in-NoCompression c = record {
  taken = uncompressed_body c.args.params.now c.args.reference c.is_some-is_ref.result c.args.kind (bits_at c.args.reader.now)
      (bits_at c.skip_uncompressed.new.reader)
      c.is_some-is_ref.ensures c.in-NoCompression.is c.in_ok-skip_uncompressed-in-NoCompression.ensures.taken;
  list = search rules;
  within = search rules;
}

pub returns-in_ok-skip_split-in-Split : goal.returns-in_ok-skip_split-in-Split
returns-in_ok-skip_split-in-Split c = record {
  taken = split_body c.args.params.now c.args.reference c.is_some-is_ref.result c.args.kind c.in-Split.k (bits_at c.args.reader.now)
      (bits_at c.skip_split.new.reader) c.in_ok-skip_split-in-Split.field-0 c.one_block.result c.is_some-is_ref.ensures c.in-Split.is
      c.one_block.ensures c.in_ok-skip_split-in-Split.ensures.taken;
  list = search rules;
  within = search rules;
}
