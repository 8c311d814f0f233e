use Rattle.aec_params.proofs.StoredLemmas.{low_bits-full, low_bits-lt}
use Rattle.aec_params.proofs.stored.number_of_sample.Goals as goal

pub returns-clause-value : goal.returns-clause-value
returns-clause-value c =
    low_bits-full c.args.params.now c.args.x c.cast_unsigned.result c.storage.result c.storage.ensures.allowed c.requires c.ranges.x
    c.cast_unsigned.ensures c.storage.ensures.value

pub returns-clause-fits : goal.returns-clause-fits
returns-clause-fits c = low_bits-lt c.args.params.now c.cast_unsigned.result c.storage.result c.storage.ensures.allowed c.storage.ensures.value
