use Rattle.aec_edit.proofs.NothingLaws.{codes_nothing, always_made}
use Rattle.aec_edit.proofs.laws.edits_that_code_nothing_are_made.Goals as goal

pub returns : goal.returns
returns c = record { which = codes_nothing; made = always_made }
