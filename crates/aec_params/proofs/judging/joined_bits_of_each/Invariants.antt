use Rattle.std.proofs.Common.{◌*◌, ◌<◌, ◌≤◌, ℕ, drop}
use Rattle.aec_params.proofs.judging.joined_bits_of_each.Given as goal

-- each number so far is at most `joined`
abbrev pub invariant-loop-i : goal.invariant-loop-i
invariant-loop-i g l = (k : ℕ) → k < l.i → g.T.ByteOrder.number_of l.width (drop (l.width * k) l.bytes) ≤ l.joined
