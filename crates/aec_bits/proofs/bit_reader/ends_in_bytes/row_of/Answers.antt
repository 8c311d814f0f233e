use Rattle.std.proofs.Common.{[], ap, ◌∙◌, zero-add}
use Rattle.aec_bits.specs.Ends.{ends_in_byte}
use Rattle.aec_bits.proofs.TableLaws.{at_place-listed_from}
use Rattle.aec_bits.proofs.bit_reader.ends_in_bytes.row_of.Goals as goal

pub returns : goal.returns
returns c = at_place-listed_from ends_in_byte [] 0 256 c.args.byte c.requires ∙ ap ends_in_byte (zero-add c.args.byte)
