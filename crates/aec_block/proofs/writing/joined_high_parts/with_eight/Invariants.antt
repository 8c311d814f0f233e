use Rattle.std.proofs.Common.{ℕ, ◌+◌, ◌^◌, ◌<◌, ◌≤◌, take, length}
use Rattle.aec_block.specs.HighWords.{GoesOn}
use Rattle.aec_block.specs.Written.{high_parts}
use Rattle.aec_block.proofs.writing.joined_high_parts.with_eight.Given as goal

abbrev pub invariant-loop-i : goal.invariant-loop-i
invariant-loop-i l =
    (used : ℕ) → used + length (high_parts l.k l.values) ≤ 64 → l.fn.word < 2 ^ used → GoesOn l.k used l.fn.word (take l.i l.values) l.word
