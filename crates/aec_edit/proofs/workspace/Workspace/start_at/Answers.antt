use Rattle.std.proofs.Common.{arith, ◌∙◌}
use Rattle.aec_edit.proofs.KeptLemmas.{at_view, start_kept, end_kept}
use Rattle.aec_edit.proofs.workspace.Workspace.start_at.Goals as goal

pub returns-then-i-len : goal.returns-then-i-len
returns-then-i-len g c =
    let seen = c.args.self.now in
    start_kept (g.C.Codec.format seen.codec) c.args.i _ (g.C.Codec.lawful seen.codec) (at_view g.C.Codec.format c.self.inside.written seen c.self.view_is)
    (omega (arith, c.self.inside.coded.starts.ok.0)) c.index.ensures

pub returns-else-i-len : goal.returns-else-i-len
returns-else-i-len g c =
    let seen = c.args.self.now in
    c.len-else-i-len.ensures.value
    ∙ end_kept (g.C.Codec.format seen.codec) c.args.i (g.C.Codec.lawful seen.codec) (at_view g.C.Codec.format c.self.inside.written seen c.self.view_is)
    (omega (arith, c.self.inside.coded.starts.ok.0))
