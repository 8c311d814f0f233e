use Rattle.std.proofs.Common.{rules, arith, w64, FitsSigned, ◌+◌, ◌*◌, vec_len}
use Rattle.std.proofs.lemmas.Int.{to_z-of_z}
use Rattle.aec_interval.proofs.ZeroRunLemmas.{fills-resized}
use Rattle.aec_interval.proofs.reading.zero_runs.push_zero_run.Goals as goal

pub returns-clause-items : goal.returns-clause-items
returns-clause-items c =
    let fits : FitsSigned w64 c.repeated_sample-sample.result = search (rules, c.repeated_sample-sample.type_inv) in
    fills-resized c.args.params.now c.args.block c.args.blocks c.args.samples.now.items c.resize.new.self.items c.args.reference _
    (vec_len c.args.samples.now) (c.len.result + c.args.blocks * c.from.result) c.requires.allowed c.requires.some
    c.requires.within c.requires.due c.requires.filled (rw (to_z-of_z, c.repeated_sample-sample.ensures, c.deref.ensures.value))
    (omega arith) (grind arith) (rw c.unwrap.ensures at c.resize.ensures.items)
