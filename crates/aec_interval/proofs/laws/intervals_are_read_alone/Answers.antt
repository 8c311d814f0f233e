use Rattle.aec_interval.proofs.OffsetLemmas.{intervals_are_read_alone}
use Rattle.aec_interval.proofs.laws.intervals_are_read_alone.Goals as goal

pub returns : goal.returns
returns c = intervals_are_read_alone
