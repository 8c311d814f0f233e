use Rattle.aec_interval.proofs.RoundTripLemmas.{each_code_is_read}
use Rattle.aec_interval.proofs.laws.each_code_is_read.Goals as goal

pub returns : goal.returns
returns c = each_code_is_read
