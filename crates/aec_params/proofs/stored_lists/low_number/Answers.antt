use Rattle.aec_params.proofs.StoredListLemmas.{low_number-lt}
use Rattle.aec_params.proofs.stored_lists.low_number.Goals as goal

pub returns-clause-fits : goal.returns-clause-fits
returns-clause-fits c = low_number-lt c.cast_unsigned.result c.args.width c.requires
