use Rattle.std.proofs.Common.{rules, ◌-◌, ◌%◌, ◌≤◌, max, arith}
use Rattle.std.proofs.Math.Nat.{mul-le-mul_right}
use Rattle.aec_params.specs.Params.{interval_len}
use Rattle.aec_interval.proofs.NextPartLemmas.{few_of_first, all_of_first, front_bytes, front_of_first, first_refused}
use Rattle.aec_interval.proofs.stream_coder.pieces.part_len.Goals as goal

pub returns-then-taken-samples-clause-part : goal.returns-then-taken-samples-clause-part
returns-then-taken-samples-clause-part c =
    all_of_first c.args.terms.now c.args.progress.now c.args.bytes.now _ _ _ _ _ c.requires.progress c.storage-width.ensures.value
    c.interval_len-interval.ensures.value c.len.ensures c.part_samples-samples.ensures.some c.part_samples-samples.ensures.there
    c.part_samples-samples.ensures.whole c.taken_samples-taken.ensures.value c.if-taken-samples.true

pub returns-then-taken-interval-clause-stops : goal.returns-then-taken-interval-clause-stops
returns-then-taken-interval-clause-stops c bits =
    let u = c.args.terms.now in let p = c.args.progress.now in let bytes = c.args.bytes.now in
    let few = few_of_first u p bytes _ _ _ c.requires.progress c.storage-width.ensures.value c.part_samples-samples.ensures.there
    c.taken_samples-taken.ensures.value in
    rw c.refusal.ensures (first_refused u p bytes bits _ _ _ _ _ c.requires.progress c.storage-width.ensures.value
    c.interval_len-interval.ensures.value c.len.ensures c.part_samples-samples.ensures.there c.part_samples-samples.ensures.begun
    c.taken_samples-taken.ensures.value (omega arith) c.if-taken-interval.true)

pub overflow_mul-result-2 : goal.overflow_mul-result-2
overflow_mul-result-2 c =
    let few = few_of_first c.args.terms.now c.args.progress.now c.args.bytes.now _ _ _ c.requires.progress c.storage-width.ensures.value
    c.part_samples-samples.ensures.there c.taken_samples-taken.ensures.value in
    let within = front_bytes c.args.bytes.now c.storage-width.result c.interval_len-interval.result _ _ c.part_samples-samples.ensures.there few in
    search (rules, within)

pub returns-clause-few : goal.returns-clause-few
returns-clause-few c =
    let whole = c.taken_samples-taken.result - c.taken_samples-taken.result % c.interval_len-interval.result in
    let most = max 4096 (interval_len c.args.terms.now.params) in
    let few = few_of_first c.args.terms.now c.args.progress.now c.args.bytes.now _ _ _ c.requires.progress c.storage-width.ensures.value
    c.part_samples-samples.ensures.there c.taken_samples-taken.ensures.value in
    let within : whole ≤ most = omega arith in
    rw (← c.storage-width.ensures.value) (mul-le-mul_right c.storage-width.result within)

pub returns-clause-within : goal.returns-clause-within
returns-clause-within c =
    let few = few_of_first c.args.terms.now c.args.progress.now c.args.bytes.now _ _ _ c.requires.progress c.storage-width.ensures.value
    c.part_samples-samples.ensures.there c.taken_samples-taken.ensures.value in
    front_bytes c.args.bytes.now c.storage-width.result c.interval_len-interval.result _ _ c.part_samples-samples.ensures.there few

pub returns-clause-part : goal.returns-clause-part
returns-clause-part c =
    front_of_first c.args.terms.now c.args.progress.now c.args.bytes.now _ _ _ _ _ c.requires.progress c.storage-width.ensures.value
    c.interval_len-interval.ensures.value c.len.ensures c.part_samples-samples.ensures.there c.part_samples-samples.ensures.begun
    c.taken_samples-taken.ensures.value (omega arith)
