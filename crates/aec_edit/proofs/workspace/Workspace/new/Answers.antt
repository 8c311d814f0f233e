use Rattle.aec_edit.proofs.KeptLemmas.{no_other, none_kept}
use Rattle.aec_edit.proofs.workspace.Workspace.new.Goals as goal

pub returns-clause-samples : goal.returns-clause-samples
returns-clause-samples g c =
    let lawful = g.C.Codec.lawful c.args.codec in
    no_other _ lawful (none_kept (g.C.Codec.format c.args.codec) lawful c.new.ensures.none.count c.new.ensures.none.bits c.new.ensures.none.starts)
