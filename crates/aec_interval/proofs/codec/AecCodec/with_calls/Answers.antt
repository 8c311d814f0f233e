use Rattle.aec_interval.proofs.IntervalFormatLemmas.{interval_format-lawful}
use Rattle.aec_interval.proofs.codec.AecCodec.with_calls.Goals as goal

pub invariant_of-result : goal.invariant_of-result
invariant_of-result c = record {
  allowed = c.known_allowed.ensures;
  lawful = interval_format-lawful c.args.params c.known_allowed.ensures;
}
