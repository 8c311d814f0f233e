use Rattle.std.proofs.Common.{arith, ap}
use Rattle.aec_edit.proofs.KeptLemmas.{at_view}
use Rattle.aec_edit.proofs.workspace.Workspace.interval_len.Goals as goal

pub returns-clause-sound : goal.returns-clause-sound
returns-clause-sound g c =
    let seen = c.args.self.now in
    let kept = at_view g.C.Codec.format c.self.inside.written seen c.self.view_is in
    let lawful = g.C.Codec.lawful seen.codec in
    let limit = ap (λ w. w.limit) c.self.view_is in
    record {
      some = lawful.some;
      few = lawful.few;
      held = kept.held;
      count = omega (arith, kept.count_is, c.self.invariant.0, limit);
      bound = omega (arith, c.self.invariant.1, limit);
    }
