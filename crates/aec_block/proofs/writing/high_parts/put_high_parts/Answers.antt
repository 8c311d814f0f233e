use Rattle.std.proofs.Common.{◌^◌, ◌<◌, arith}
use Rattle.std.proofs.lemmas.Bool.Decides.{nat_tests}
use Rattle.aec_block.proofs.LengthLemmas.{length-high_parts}
use Rattle.aec_block.proofs.writing.high_parts.put_high_parts.Goals as goal

pub put_high_groups-requires-clause-lanes : goal.put_high_groups-requires-clause-lanes
put_high_groups-requires-clause-lanes c =
    let few : c.args.len < 2 ^ 32 = grind (arith, nat_tests) in
    record { k_below = c.requires.len.k_below; small = omega (arith, few, c.requires.len.len_is, length-high_parts c.args.k c.args.values.now) }
