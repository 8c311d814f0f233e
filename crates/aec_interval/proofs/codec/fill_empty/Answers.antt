use Rattle.aec_interval.proofs.IntervalReadingLemmas.{memory-alone, read-interval}
use Rattle.aec_interval.proofs.codec.fill_empty.Goals as goal

pub returns-in-Ok-clause-ok : goal.returns-in-Ok-clause-ok
returns-in-Ok-clause-ok c s begins =
    read-interval c.args.params.now _ _ _ _ _ s c.requires.allowed c.in-Ok.ensures.ok begins

pub returns-in-Err-clause-fault : goal.returns-in-Err-clause-fault
returns-in-Err-clause-fault c =
    memory-alone c.args.params.now _ _ _ _ c.requires.begins.0 _ c.requires.allowed c.in-Err.ensures.refuses c.requires.begins.1
