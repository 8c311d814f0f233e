use Rattle.std.proofs.Common.{refl}
use Rattle.aec_engine.specs.Transfers.{answer_by}
use Rattle.aec_c.specs.Kinds.{workspace_in}
use Rattle.aec_c.specs.HandleReads.{read}
use Rattle.aec_c.proofs.HandleLemmas.{kind_was, range_answer}
use Rattle.aec_c.proofs.handle_reads.read_range.Goals as goal

pub returns-in-Workspace : goal.returns-in-Workspace
returns-in-Workspace c =
    let w = c.in-Workspace.work in let says = c.range.ensures in
    read w (record { workspace = c.range.new.self }) (answer_by (λ v. v.items) c.range.result)
    (kind_was workspace_in c.args.inside.now c.in-Some.held c.deref_mut.result.now _ c.in-Some.is c.deref_mut.ensures.value c.in-Workspace.is)
    refl (record { samples = says.read.samples; limit = says.read.limit; calls = says.read.calls; format = says.read.format })
    (range_answer w.workspace.samples c.args.first c.args.len (λ v. v.items) c.range.result says.ok says.within says.refuses)
    c.settle.ensures.left c.settle.ensures.reply
