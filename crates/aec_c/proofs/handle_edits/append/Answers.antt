use Rattle.std.proofs.Common.{refl}
use Rattle.aec_c.specs.Kinds.{workspace_in}
use Rattle.aec_c.specs.HandleCalls.{held}
use Rattle.aec_c.proofs.HandleLemmas.{kind_was}
use Rattle.aec_c.proofs.handle_edits.append.Goals as goal

pub returns-in-Workspace : goal.returns-in-Workspace
returns-in-Workspace c =
    held c.in-Workspace.work (record { workspace = c.append.new.self })
    (kind_was workspace_in c.args.inside.now c.in-Some.held c.deref_mut.result.now _ c.in-Some.is c.deref_mut.ensures.value c.in-Workspace.is)
    refl (record {
      answer = c.append.result;
      replied = c.edit_reply.ensures;
      applies = c.append.ensures.applies;
      limit = c.append.ensures.rules.limit;
      format = c.append.ensures.rules.format;
      err = c.append.ensures.err;
    })
