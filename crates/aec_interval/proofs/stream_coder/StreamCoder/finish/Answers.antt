use Rattle.std.proofs.Common.{◌<◌, length, arith}
use Rattle.std.proofs.lemmas.Result.{on_ok_weaker}
use Rattle.aec_interval.proofs.PartLemmas.{finished_bits}
use Rattle.aec_interval.proofs.stream_coder.StreamCoder.finish.Goals as goal

pub returns-clause-ok : goal.returns-clause-ok
returns-clause-ok c =
    let progress = c.self.invariant.progress.held in
    let some : 0 < length c.self.inside.progress.held = omega arith in
    on_ok_weaker c.append_interval.result
    (λ bits. finished_bits _ c.args.self c.as_slice.result.now c.args.out.now.list c.append_interval.new.out.list c.self.view_is c.as_slice.ensures
    some progress.allowed
    progress.few bits) c.append_interval.ensures.ok
