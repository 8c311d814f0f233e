use Rattle.std.proofs.Common.{refl}
use Rattle.aec_engine.specs.Transfers.{answer_by}
use Rattle.aec_c.specs.Kinds.{workspace_in}
use Rattle.aec_c.specs.HandleReads.{written}
use Rattle.aec_c.proofs.HandleLemmas.{kind_was, code_answer}
use Rattle.aec_c.proofs.handle_reads.write_code.Goals as goal

pub returns-in-Workspace : goal.returns-in-Workspace
returns-in-Workspace c =
    let w = c.in-Workspace.work in let says = c.code_bytes.ensures in
    written w (answer_by (λ v. v.items) c.code_bytes.result)
    (kind_was workspace_in c.args.inside.now c.in-Some.held c.deref.result.now _ c.in-Some.is c.deref.ensures c.in-Workspace.is)
    refl (code_answer w (λ v. v.items) c.code_bytes.result says.ok says.fault) c.settle.ensures.left c.settle.ensures.reply
