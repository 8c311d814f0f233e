use Rattle.std.proofs.Common.{rules, ◌≤◌, ◌/◌, refl, arith}
use Rattle.aec_interval.proofs.ShortLemmas.{parts_within}
use Rattle.aec_interval.proofs.reading.short.intervals_at_once.Goals as goal

pub returns-clause-most : goal.returns-clause-most
returns-clause-most c =
    let fewer : c.min-3.result ≤ c.min-2.result / c.interval_len.result = search rules in
    parts_within _ _ c.min-2.result c.interval_len.result _ _ fewer refl c.interval_len.ensures.value (omega arith)

pub returns-clause-there : goal.returns-clause-there
returns-clause-there c =
    let fewer : c.min-3.result ≤ c.min-2.result / c.interval_len.result = search rules in
    parts_within _ _ c.min-2.result c.interval_len.result _ _ fewer refl c.interval_len.ensures.value (omega arith)

pub returns-clause-room : goal.returns-clause-room
returns-clause-room c =
    let fewer : c.min-3.result ≤ c.min-2.result / c.interval_len.result = search rules in
    parts_within _ _ c.min-2.result c.interval_len.result _ _ fewer refl c.interval_len.ensures.value (omega arith)
