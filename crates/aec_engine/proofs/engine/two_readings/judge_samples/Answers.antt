use Rattle.aec_engine.proofs.ReadTwiceLemmas.{begun_at_start}
use Rattle.aec_engine.proofs.engine.two_readings.judge_samples.Goals as goal

pub judge_from-requires-clause-begun : goal.judge_from-requires-clause-begun
judge_from-requires-clause-begun c = begun_at_start c.args.reader.now c.args.first c.requires.start.block c.requires.start.bit
