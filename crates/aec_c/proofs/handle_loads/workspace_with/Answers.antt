use Rattle.aec_c.proofs.HandleLoadLemmas.{filled_holds, filled_refuses}
use Rattle.aec_c.proofs.handle_loads.workspace_with.Goals as goal

pub returns-in-Ok-clause-ok : goal.returns-in-Ok-clause-ok
returns-in-Ok-clause-ok c =
    filled_holds _ c.in_ok-work.work (record { workspace = c.append.new.self }) c.args.samples.now c.in_ok-work.ensures.ok c.in-Ok.field-0
    c.append.ensures.rules.limit c.append.ensures.rules.format c.in-Ok.ensures.applies

pub returns-in-Err-clause-refuses : goal.returns-in-Err-clause-refuses
returns-in-Err-clause-refuses c =
    filled_refuses _ c.in_ok-work.work (record { workspace = c.append.new.self }) c.args.samples.now c.in_ok-work.ensures.ok c.in-Err.fault
    c.in-Err.ensures.applies
