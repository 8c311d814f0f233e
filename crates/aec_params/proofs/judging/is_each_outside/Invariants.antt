use Rattle.std.proofs.Common.{◌≡◌, ◌*◌, ◌<◌, ℕ, true, drop}
use Rattle.aec_params.specs.StoredLists.{IsOutside}
use Rattle.aec_params.proofs.judging.is_each_outside.Given as goal

-- if `outside` is true, all numbers so far are outside
abbrev pub invariant-loop-i : goal.invariant-loop-i
invariant-loop-i g l =
    l.outside ≡ true → (k : ℕ) → k < l.i → IsOutside l.low l.high (g.T.ByteOrder.number_of l.width (drop (l.width * k) l.bytes))
