use Rattle.std.proofs.Common.{◌≡◌}
use Rattle.std.specs.Result.{result_err}
use Rattle.std.specs.Slice.Iter.{chunks_exact_rest, chunks_exact_size}
use Rattle.aec_params.specs.Params.{storage_len}
use Rattle.aec_params.specs.Stored.{byte_groups, samples_of_bytes, samples_of_groups}
use Rattle.aec_params.proofs.judging.find_bad.Given as goal

-- every group so far is a sample, so the first bad one is among the other groups
abbrev pub invariant-loop-index : goal.invariant-loop-index
invariant-loop-index l =
    (chunks_exact_size l.index-iterator.iter ≡ storage_len l.params)
    × (result_err (samples_of_bytes l.params l.bytes)
    ≡ result_err (samples_of_groups l.params l.index-iterator.count (byte_groups l.params (chunks_exact_rest l.index-iterator.iter))))
