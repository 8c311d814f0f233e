use Rattle.std.proofs.Common.{refl, inr, ap}
use Rattle.aec_c.specs.Kinds.{coder_in}
use Rattle.aec_c.specs.Coders.{opened, not_opened}
use Rattle.aec_c.proofs.coders.open_coder.Goals as goal

pub returns-in-Ok-hold : goal.returns-in-Ok-hold
returns-in-Ok-hold c =
    let says = c.in-Ok.ensures.ok in opened c.in-Ok.made says.0 (ap coder_in c.in-Ok-hold.ensures.ok) says.1 says.2 c.answered.ensures

pub returns-in-Err-hold : goal.returns-in-Err-hold
returns-in-Err-hold c =
    let says = c.in-Err-hold.ensures in not_opened c.in-Err-hold.fault (inr (c.in-Ok.ensures.ok.0, says.fault)) says.err c.refused.ensures

pub returns-in-Err : goal.returns-in-Err
returns-in-Err c = not_opened c.in-Err.fault c.in-Err.ensures.refuses refl c.refused-in-Err.ensures
