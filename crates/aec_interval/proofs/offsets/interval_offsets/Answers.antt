use Rattle.std.proofs.lemmas.Result.{err_from_is_err_and}
use Rattle.aec_interval.proofs.ReadNextLemmas.{counting-refuses}
use Rattle.aec_interval.proofs.offsets.interval_offsets.Goals as goal

pub returns-in_err-reader-clause-refuses : goal.returns-in_err-reader-clause-refuses
returns-in_err-reader-clause-refuses c =
    let exit = err_from_is_err_and c.from_residual.result c.from_residual.ensures.1 in
    counting-refuses _ exit.0 _ _ _ _ exit.1 (rw exit.2 c.in_err-reader.ensures.refuses)
