use Rattle.aec_c.proofs.CoderLaws.{joined}
use Rattle.aec_c.proofs.laws.taken_bytes_join.Goals as goal

pub returns : goal.returns
returns c = joined
