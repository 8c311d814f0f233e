use Rattle.aec_bits.proofs.EndsLemmas.{end_in_row}
use Rattle.aec_bits.proofs.bit_reader.counted_ones.behind_in_byte.Goals as goal

pub returns-clause-place : goal.returns-clause-place
returns-clause-place c =
    (end_in_row c.args.byte c.args.nth _ c.row_of.result c.requires.byte c.requires.some c.requires.there c.row_of.ensures c.from.ensures).0

pub returns-clause-small : goal.returns-clause-small
returns-clause-small c =
    (end_in_row c.args.byte c.args.nth _ c.row_of.result c.requires.byte c.requires.some c.requires.there c.row_of.ensures c.from.ensures).1
