use Rattle.std.proofs.Common.{arith, sym, ap}
use Rattle.aec_edit.proofs.KeptLemmas.{at_view}
use Rattle.aec_edit.proofs.workspace.Workspace.count.Goals as goal

pub returns-clause-value : goal.returns-clause-value
returns-clause-value g c = sym (at_view g.C.Codec.format c.self.inside.written c.args.self.now c.self.view_is).count_is

pub returns-clause-few : goal.returns-clause-few
returns-clause-few g c =
    let kept = at_view g.C.Codec.format c.self.inside.written c.args.self.now c.self.view_is in
    omega (arith, kept.count_is, c.self.invariant.0, ap (λ w. w.limit) c.self.view_is)

pub returns-clause-held : goal.returns-clause-held
returns-clause-held g c = (at_view g.C.Codec.format c.self.inside.written c.args.self.now c.self.view_is).held
