use Rattle.aec_edit.proofs.KeptLemmas.{seen_again}
use Rattle.aec_edit.proofs.workspace.Workspace.keep_lists.Goals as goal

pub returns : goal.returns
returns g c =
    record {
      same = seen_again g.C.Codec.format c.self.inside.written _ c.args.self.now (g.C.Codec.lawful c.self.inside.codec) c.self.view_is;
    }
