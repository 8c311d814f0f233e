use Rattle.std.proofs.Common.{refl, inr, ap}
use Rattle.aec_c.specs.Kinds.{workspace_in}
use Rattle.aec_c.specs.HandleReads.{fresh, refused}
use Rattle.aec_c.proofs.handle_reads.open_workspace.Goals as goal

pub returns-in-Ok-hold : goal.returns-in-Ok-hold
returns-in-Ok-hold c = fresh c.in-Ok.work (ap workspace_in c.in-Ok-hold.ensures.ok) c.in-Ok.ensures.ok c.answered.ensures

pub returns-in-Err-hold : goal.returns-in-Err-hold
returns-in-Err-hold c =
    let says = c.in-Err-hold.ensures in refused c.in-Err-hold.fault (inr (c.in-Ok.ensures.ok.allowed, says.fault)) says.err c.refused.ensures

pub returns-in-Err : goal.returns-in-Err
returns-in-Err c = refused c.in-Err.fault c.in-Err.ensures.refuses refl c.refused-in-Err.ensures
