use Rattle.std.proofs.Common.{refl, [], sym, append-nil, arith, ◌∙◌}
use Rattle.aec_interval.specs.NextBlock.{last_sample}
use Rattle.aec_interval.proofs.FillLemmas.{is_filled}
use Rattle.aec_interval.proofs.interval.filled_blocks.map_block.Goals as goal

pub returns-clause-filled : goal.returns-clause-filled
returns-clause-filled c =
    is_filled c.args.params.now c.args.previous c.args.samples.now (last_sample c.args.samples.now) _ _ [] _ 0 c.requires.block.allowed
    c.requires.block.some c.requires.block.samples (omega arith) refl c.reference_after.ensures
    (sym (append-nil c.map_samples.new.values)) c.map_samples.ensures refl

pub returns-clause-len : goal.returns-clause-len
returns-clause-len c = (returns-clause-filled c).full.len ∙ sym c.requires.whole ∙ sym c.requires.len
