use Rattle.std.proofs.Common.{◌≡◌, ◌&&◌, drop}
use Rattle.std.specs.List.{list_all}
use Rattle.aec_edit.proofs.workspace.Workspace.are_held.Given as goal

-- all values are samples exactly if those so far are (`held`) and the others are
abbrev pub invariant-loop-x : goal.invariant-loop-x
invariant-loop-x g l =
    let holds = (g.C.Codec.format l.self.codec).holds in
    l.held && list_all holds (drop l.x-index l.values) ≡ list_all holds l.values
