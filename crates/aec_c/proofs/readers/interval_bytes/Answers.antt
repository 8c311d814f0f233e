use Rattle.std.proofs.Common.{arith}
use Rattle.aec_c.proofs.ReaderLemmas.{bytes-most}
use Rattle.aec_c.proofs.readers.interval_bytes.Goals as goal

pub overflow_mul-result : goal.overflow_mul-result
overflow_mul-result c =
    let few = bytes-most c.args.params.now c.interval_len.result c.storage.result c.interval_len.ensures.allowed
    (omega (arith, c.interval_len.ensures.value)) c.storage.ensures.value in
    omega (arith, few)
