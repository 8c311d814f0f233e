use Rattle.std.proofs.Common.{sym, ◌∙◌}
use Rattle.aec_edit.proofs.HeldLemmas.{none-from_held}
use Rattle.aec_edit.proofs.workspace.Workspace.first_unheld.Goals as goal

pub returns-then-are_held : goal.returns-then-are_held
returns-then-are_held g c =
    sym (none-from_held (g.C.Codec.format c.args.self.now.codec).holds 0 c.args.values.now (sym c.are_held.ensures ∙ c.if-are_held.true))
