use Rattle.std.proofs.Common.{[], ap, ◌∙◌, zero-add}
use Rattle.aec_bits.proofs.TableLaws.{at_place-listed_from}
use Rattle.aec_block.proofs.PairTableLemmas.{members_of}
use Rattle.aec_block.proofs.reading.pairs.short_pair.Goals as goal

pub returns : goal.returns
returns c = at_place-listed_from members_of [] 0 64 c.args.number c.requires ∙ ap members_of (zero-add c.args.number)
