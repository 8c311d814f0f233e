use Rattle.std.proofs.Common.{◌≡◌, ◌*◌, take}
use Rattle.aec_block.specs.Gathering.{members_of_numbers}
use Rattle.aec_block.proofs.reading.pairs.put_pairs.Given as goal

abbrev pub invariant-loop-i : goal.invariant-loop-i
invariant-loop-i l = take (2 * l.i) l.values ≡ members_of_numbers (take l.i l.numbers)
