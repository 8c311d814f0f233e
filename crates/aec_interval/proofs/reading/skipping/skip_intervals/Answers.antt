use Rattle.aec_interval.proofs.SkippingLemmas.{led-start}
use Rattle.aec_interval.proofs.reading.skipping.skip_intervals.Goals as goal

pub skip_untested-block-requires-clause-led : goal.skip_untested-block-requires-clause-led
skip_untested-block-requires-clause-led c = led-start c.args.params.now _ _ _ _ _ _ c.requires.begins
