use Rattle.std.proofs.Common.{length, ap, ◌∙◌}
use Rattle.aec_edit.proofs.KeptLemmas.{at_view}
use Rattle.aec_edit.proofs.workspace.Workspace.stream_bits.Goals as goal

pub returns : goal.returns
returns g c = c.len.ensures.value ∙ ap length (at_view g.C.Codec.format c.self.inside.written c.args.self.now c.self.view_is).bits_are
