use Rattle.std.proofs.Common.{◌≡◌, drop}
use Rattle.aec_bits.specs.Refusals.{first_unheld}
use Rattle.aec_edit.proofs.workspace.Workspace.first_unheld.Given as goal

-- every number so far is a sample, so the first that is no sample is among the others
abbrev pub invariant-loop-index : goal.invariant-loop-index
invariant-loop-index g l =
    let holds = (g.C.Codec.format l.self.codec).holds in
    first_unheld holds l.index (drop l.index l.values) ≡ first_unheld holds 0 l.values
