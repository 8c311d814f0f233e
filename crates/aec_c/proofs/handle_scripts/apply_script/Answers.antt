use Rattle.std.proofs.Common.{refl}
use Rattle.aec_c.specs.Kinds.{workspace_in}
use Rattle.aec_c.specs.ScriptCalls.{held}
use Rattle.aec_c.proofs.HandleLemmas.{kind_was}
use Rattle.aec_c.proofs.handle_scripts.apply_script.Goals as goal

pub returns-in-Workspace : goal.returns-in-Workspace
returns-in-Workspace c =
    held c.in-Workspace.work c.carry_out.new.work
    (kind_was workspace_in c.args.inside.now c.in-Some.held c.deref_mut.result.now _ c.in-Some.is c.deref_mut.ensures.value c.in-Workspace.is)
    refl c.carry_out.ensures
