use Rattle.std.proofs.Common.{sym, ap}
use Rattle.aec_edit.proofs.KeptLemmas.{no_other}
use Rattle.aec_edit.proofs.RecodingLemmas.{in_format}
use Rattle.aec_edit.proofs.workspace.Workspace.take_over.Goals as goal

pub returns-clause-samples : goal.returns-clause-samples
returns-clause-samples g c = λ s held is.
    no_other _ (g.C.Codec.lawful c.self.inside.codec)
    (in_format (ap (λ w. g.C.Codec.format w.codec) c.self.view_is)
    (record { held = held; count_is = sym is.count_is; bits_are = is.bits; starts_are = is.starts }))
