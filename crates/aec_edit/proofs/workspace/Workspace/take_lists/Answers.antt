use Rattle.aec_edit.proofs.KeptLemmas.{seen_again}
use Rattle.aec_edit.proofs.workspace.Workspace.take_lists.Goals as goal

pub returns-clause-same : goal.returns-clause-same
returns-clause-same g c =
    seen_again g.C.Codec.format c.self.inside.written _ c.args.self.now (g.C.Codec.lawful c.self.inside.codec) c.self.view_is
