use Rattle.aec_interval.proofs.ReadingLemmas.{bits_are_read_in_one_way}
use Rattle.aec_interval.proofs.laws.bits_are_read_in_one_way.Goals as goal

pub returns : goal.returns
returns c = bits_are_read_in_one_way
