use Rattle.aec_edit.proofs.RebuildLemmas.{first_drafted}
use Rattle.aec_edit.proofs.workspace.Workspace.first_draft.Goals as goal

pub returns-clause-ok : goal.returns-clause-ok
returns-clause-ok g c =
    let seen = c.args.self.now in
    first_drafted (g.C.Codec.format seen.codec) seen.samples _ c.count.result c.intervals.result (g.C.Codec.lawful seen.codec) c.count.ensures.held
    c.new-3.ensures.items c.in_ok-new.ensures.ok c.count.ensures.value c.in_ok-new-2.ensures.ok c.intervals.ensures c.in_ok-new.ensures.cut
    c.in_ok-new-2.ensures.cut c.count-2.ensures.value
