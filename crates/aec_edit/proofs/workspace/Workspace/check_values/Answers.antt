use Rattle.std.proofs.Common.{sym, rules}
use Rattle.aec_edit.proofs.HeldLemmas.{held-from_none}
use Rattle.aec_edit.proofs.workspace.Workspace.check_values.Goals as goal

pub returns-in-None-clause-ok : goal.returns-in-None-clause-ok
returns-in-None-clause-ok g c = record {
  fit = search rules;
  held = held-from_none (g.C.Codec.format c.args.self.now.codec).holds 0 c.args.values.now (sym c.in-None.ensures);
}
