use Rattle.aec_block.proofs.SetLemmas.{nothing_is_read_where_none_begins}
use Rattle.aec_block.proofs.laws.nothing_is_read_where_none_begins.Goals as goal

pub returns : goal.returns
returns c = nothing_is_read_where_none_begins
