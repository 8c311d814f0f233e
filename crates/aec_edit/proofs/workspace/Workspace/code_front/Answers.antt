use Rattle.aec_edit.proofs.KeptLemmas.{coded_once}
use Rattle.aec_edit.proofs.CodingLemmas.{one_more_call}
use Rattle.aec_edit.proofs.workspace.Workspace.code_front.Goals as goal

pub returns-clause-same : goal.returns-clause-same
returns-clause-same g c =
    let kept = coded_once g.C.Codec.format g.C.Codec.called g.C.Codec.read 0 c.self.inside.written _ c.args.self.now (g.C.Codec.lawful c.code.new.self)
    c.self.view_is c.code.ensures.same_format c.code.ensures.same_reads
    (one_more_call c.code.result _ _ c.code.ensures.counts c.code.ensures.calls_err) in
    record { samples = kept.samples; limit = kept.limit; format = kept.format; calls = kept.calls }
