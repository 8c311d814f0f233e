use Rattle.std.proofs.Common.{◌≡◌, ◌+◌, ◌-◌, ◌*◌, ◌/◌, ◌%◌, inr, arith}
use Rattle.std.proofs.Math.Nat.{mul-mod_left}
use Rattle.aec_interval.proofs.stream_coder.pieces.part_samples.Goals as goal

pub returns-clause-whole : goal.returns-clause-whole
returns-clause-whole c =
    let i = c.args.interval in let most = c.min-most.result in
    let whole : c.args.held + (most - most % i) ≡ most / i * i = omega arith in
    inr (rw (whole, mul-mod_left))
