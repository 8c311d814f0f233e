use Rattle.std.proofs.Common.{rules, ◌≡◌, arith}
use Rattle.std.proofs.Math.Nat.{add-mul-mod_self_right}
use Rattle.aec_interval.proofs.ShortLemmas.{within_few}
use Rattle.aec_interval.proofs.reading.short.read_short.Goals as goal

pub returns-clause-few : goal.returns-clause-few
returns-clause-few c =
    let n = c.fill_several_intervals-count.result in
    let size : c.from.result ≡ c.args.params.now.interval = search rules in
    let few = within_few c.args.params.now c.args.wanted.count c.args.wanted.limit c.args.wanted.first n c.interval_len-len.ensures.allowed
    c.requires.few (λ some. c.intervals_at_once-asked.ensures.within n some c.fill_several_intervals-count.ensures.within) in
    grind arith

pub returns-clause-ends : goal.returns-clause-ends
returns-clause-ends c =
    let size : c.from.result ≡ c.args.params.now.interval = search rules in
    rw (size, add-mul-mod_self_right) c.requires.aligned
