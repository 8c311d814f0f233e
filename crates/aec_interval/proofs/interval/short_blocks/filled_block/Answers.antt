use Rattle.std.proofs.Common.{rules, arith, w64, FitsSigned, ap, length, ◌-◌, ◌∙◌}
use Rattle.std.proofs.lemmas.Int.{to_z-of_z}
use Rattle.aec_params.specs.Blocks.{Block}
use Rattle.aec_params.proofs.SettingLaws.{block_size-most}
use Rattle.aec_interval.proofs.ChunkLemmas.{length-values_after}
use Rattle.aec_interval.proofs.NextFillLemmas.{held-last_sample}
use Rattle.aec_interval.proofs.FillLemmas.{is_filled}
use Rattle.aec_interval.proofs.interval.short_blocks.filled_block.Goals as goal

pub filler-value-requires : goal.filler-value-requires
filler-value-requires c =
    let fits : FitsSigned w64 c.previous_of.result = search (rules, c.previous_of.type_inv) in
    rw (to_z-of_z, c.previous_of.ensures) (held-last_sample c.args.params.now c.args.samples.now c.requires.allowed c.requires.samples.held)

pub push_repeated-requires : goal.push_repeated-requires
push_repeated-requires c =
    record {
      room = grind (arith, length-values_after, block_size-most);
    }

pub returns : goal.returns
returns c =
    let fits : FitsSigned w64 c.previous_of.result = search (rules, c.previous_of.type_inv) in
    let missing = c.block_size.result - length c.args.samples.now in
    is_filled c.args.params.now c.args.previous c.args.samples.now _ _ _ _ _ missing c.requires.allowed c.requires.some c.requires.samples
    (omega arith) (to_z-of_z w64 _ fits ∙ c.previous_of.ensures) (rw c.push_repeated.ensures c.mapped_block-block.ensures.reference)
    (ap (λ (b : Block). b.values) c.push_repeated.ensures) c.mapped_block-block.ensures.values (rw c.filler-value.ensures)
