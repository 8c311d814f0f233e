use Rattle.std.proofs.Common.{◌≡◌, ◌*◌, ◌%◌, ◌^◌, ◌<◌, ℕ, ℤ, drop, get_or}
use Rattle.aec_params.specs.Params.{IsHeld, pattern_value}
use Rattle.aec_params.proofs.stored_lists.load_each.Given as goal

-- the places so far hold their samples
abbrev pub invariant-loop-i : goal.invariant-loop-i
invariant-loop-i g l =
    ((d : ℤ) (k : ℕ) → k < l.i
    → get_or l.out k d ≡ pattern_value l.fn.params (g.T.ByteOrder.number_of l.width (drop (l.width * k) l.bytes) % 2 ^ l.fn.params.bits))
    × ((d : ℤ) (k : ℕ) → k < l.i → IsHeld l.fn.params (get_or l.out k d))
