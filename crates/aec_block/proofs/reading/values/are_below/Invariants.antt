use Rattle.std.proofs.Common.{◌≡◌, nat_lt, take}
use Rattle.aec_block.specs.Gathering.{all_below}
use Rattle.aec_block.proofs.reading.values.are_below.Given as goal

abbrev pub invariant-loop-value : goal.invariant-loop-value
invariant-loop-value l = nat_lt l.most l.limit ≡ all_below l.limit (take l.value-index l.values)
