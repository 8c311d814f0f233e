use Rattle.aec_params.proofs.SettingLaws.{block_size-positive}
use Rattle.aec_interval.proofs.NeededLemmas.{fewer-needed}
use Rattle.aec_interval.proofs.reading.are_fewer.Goals as goal

pub returns : goal.returns
returns c =
    let some = block_size-positive c.args.params.now c.block_size.ensures.allowed in
    rw (c.saturating_mul.ensures, c.from.ensures, c.block_size.ensures.value)
    (fewer-needed c.args.blocks c.args.params.now.block_size c.args.count some c.ranges.count.fits)
