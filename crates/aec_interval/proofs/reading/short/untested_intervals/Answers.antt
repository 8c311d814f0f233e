use Rattle.std.proofs.Common.{rules, ◌≡◌, ◌-◌, ◌*◌, unwrap_or, arith}
use Rattle.aec_params.specs.Params.{interval_len}
use Rattle.aec_interval.proofs.ShortLemmas.{whole_within}
use Rattle.aec_interval.proofs.reading.short.untested_intervals.Goals as goal

pub returns : goal.returns
returns c =
    let s = c.args.params.now in
    let first = c.args.wanted.first in
    let samples : c.unwrap_or-samples.result ≡ unwrap_or c.args.wanted.count c.args.wanted.limit = search rules in
    let len : c.interval_len.result ≡ interval_len s = c.interval_len.ensures.value in
    let left : c.saturating_sub.result ≡ unwrap_or c.args.wanted.count c.args.wanted.limit - first * s.block_size = grind arith in
    λ n some within. record {
      unpadded = c.requires.unpadded;
      low = c.requires.limit;
      counted = c.requires.counted;
      samples = whole_within first n s.interval s.block_size _ c.saturating_sub.result c.interval_len.result some (omega arith) len left within;
    }
