use Rattle.aec_interval.proofs.JudgingLemmas.{taken_count}
use Rattle.aec_interval.proofs.stream_coder.pieces.taken_samples.Goals as goal

pub returns-clause-value : goal.returns-clause-value
returns-clause-value c =
    taken_count c.args.terms.now.params c.args.terms.now.limit c.args.count c.args.bytes.now _ _ c.min.ensures c.good_samples.ensures
