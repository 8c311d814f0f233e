use Rattle.aec_engine.proofs.OneEditLemmas.{no_edits_code}
use Rattle.aec_engine.proofs.laws.no_edits_keep_the_samples.Goals as goal

pub returns : goal.returns
returns c = no_edits_code
