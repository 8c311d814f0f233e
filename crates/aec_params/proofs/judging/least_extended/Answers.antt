use Rattle.aec_params.proofs.StoredListLemmas.{sign_within}
use Rattle.aec_params.proofs.judging.least_extended.Goals as goal

pub overflow_sub-result-then-signed : goal.overflow_sub-result-then-signed
overflow_sub-result-then-signed c =
    sign_within c.args.params.now c.bits.result c.storage.result c.storage.ensures.allowed c.bits.ensures.value c.storage.ensures.value
