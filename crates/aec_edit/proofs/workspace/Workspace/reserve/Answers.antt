use Rattle.std.proofs.Common.{ap, ◌∙◌}
use Rattle.aec_edit.proofs.KeptLemmas.{kept_still}
use Rattle.aec_edit.proofs.workspace.Workspace.reserve.Goals as goal

pub returns-clause-samples : goal.returns-clause-samples
returns-clause-samples g c =
    let same = c.reserve.ensures.same in
    kept_still c.self.inside.written _ (g.C.Codec.lawful c.self.inside.codec) same.count same.bits same.starts
    ∙ ap (λ w. w.samples) c.self.view_is
