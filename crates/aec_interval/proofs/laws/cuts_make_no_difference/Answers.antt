use Rattle.aec_interval.proofs.CutLemmas.{cuts_make_no_difference}
use Rattle.aec_interval.proofs.laws.cuts_make_no_difference.Goals as goal

pub returns : goal.returns
returns c = cuts_make_no_difference
