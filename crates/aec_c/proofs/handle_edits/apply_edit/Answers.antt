use Rattle.std.proofs.Common.{refl}
use Rattle.aec_c.specs.Kinds.{workspace_in}
use Rattle.aec_c.specs.HandleCalls.{held}
use Rattle.aec_c.proofs.HandleLemmas.{kind_was}
use Rattle.aec_c.proofs.handle_edits.apply_edit.Goals as goal

pub returns-in-Workspace : goal.returns-in-Workspace
returns-in-Workspace c =
    held c.in-Workspace.work (record { workspace = c.apply.new.self })
    (kind_was workspace_in c.args.inside.now c.in-Some.held c.deref_mut.result.now _ c.in-Some.is c.deref_mut.ensures.value c.in-Workspace.is)
    refl (record {
      answer = c.apply.result;
      replied = c.edit_reply.ensures;
      applies = record { answer = c.apply.ensures.answer; samples = c.apply.ensures.samples; opens = c.apply.ensures.reads };
      limit = c.apply.ensures.rules.limit;
      format = c.apply.ensures.rules.format;
      err = c.apply.ensures.err;
    })
