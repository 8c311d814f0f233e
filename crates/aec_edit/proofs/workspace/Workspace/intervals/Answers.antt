use Rattle.std.proofs.Common.{arith, length, ap}
use Rattle.aec_edit.proofs.KeptLemmas.{at_view}
use Rattle.aec_edit.proofs.StartLemmas.{length-starts_of}
use Rattle.aec_edit.proofs.workspace.Workspace.intervals.Goals as goal

pub returns : goal.returns
returns g c =
    let seen = c.args.self.now in
    let kept = at_view g.C.Codec.format c.self.inside.written seen c.self.view_is in
    omega (
      arith,
      c.self.inside.coded.starts.ok.0,
      ap length kept.starts_are,
      length-starts_of (g.C.Codec.format seen.codec) 0 seen.samples (g.C.Codec.lawful seen.codec).some,
    )
