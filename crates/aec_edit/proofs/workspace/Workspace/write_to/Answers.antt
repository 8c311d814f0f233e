use Rattle.aec_edit.proofs.KeptLemmas.{at_view}
use Rattle.aec_edit.proofs.workspace.Workspace.write_to.Goals as goal

pub returns-clause-ok : goal.returns-clause-ok
returns-clause-ok g c =
    rw (at_view g.C.Codec.format c.self.inside.written c.args.self.now c.self.view_is).bits_are at c.write_to.ensures.ok

pub returns-clause-front : goal.returns-clause-front
returns-clause-front g c =
    rw (at_view g.C.Codec.format c.self.inside.written c.args.self.now c.self.view_is).bits_are at c.write_to.ensures.front

pub returns-clause-refuses : goal.returns-clause-refuses
returns-clause-refuses g c =
    rw (at_view g.C.Codec.format c.self.inside.written c.args.self.now c.self.view_is).bits_are at c.write_to.ensures.refuses
