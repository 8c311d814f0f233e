use Rattle.std.proofs.Common.{arith}
use Rattle.std.proofs.lemmas.Result.{on_ok_weaker}
use Rattle.aec_bits.proofs.CodeLaws.{code_of_interval}
use Rattle.aec_interval.specs.IntervalFormat.{interval_format}
use Rattle.aec_interval.proofs.interval.append_interval.Goals as goal

pub returns : goal.returns
returns c =
    record {
      ok = on_ok_weaker c.append_intervals.result
          (λ e. rw (e, code_of_interval (interval_format c.args.params.now) c.args.samples.now (omega arith) (omega arith)))
          c.append_intervals.ensures.ok;
      err = c.append_intervals.ensures.err;
      fault = c.append_intervals.ensures.fault;
    }
