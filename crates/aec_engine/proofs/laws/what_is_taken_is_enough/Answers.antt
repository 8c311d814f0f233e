use Rattle.aec_engine.proofs.FrontLemmas.{coding-whole, decoding-whole, ranging-whole}
use Rattle.aec_engine.proofs.EditFrontLemmas.{editing-whole, scripts-whole}
use Rattle.aec_engine.proofs.laws.what_is_taken_is_enough.Goals as goal

pub returns : goal.returns
returns c = record { coding = coding-whole; decoding = decoding-whole; ranging = ranging-whole; editing = editing-whole; scripts = scripts-whole }
