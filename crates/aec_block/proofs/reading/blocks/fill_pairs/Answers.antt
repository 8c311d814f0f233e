use Rattle.std.proofs.Common.{rules, ◌∙◌, ◌/◌, ◌^◌, ap, length}
use Rattle.std.proofs.lemmas.Nat.{pow_pos}
use Rattle.aec_block.specs.Gathering.{bits_at}
use Rattle.aec_block.proofs.FillingLemmas.{begun, block_with_all, pairs_filled, sound_all}
use Rattle.aec_block.proofs.reading.blocks.fill_pairs.Goals as goal

pub invariant_of-block : goal.invariant_of-block
invariant_of-block c =
    let n = c.block_len.result in
    let begun_anew = begun n c.args.reference c.block.inside.reference c.block.inside.values.items c.restart.new.self c.block.view_is
    c.restart.ensures.reference c.restart.ensures.len c.block.invariant.1.placed in
    let count = c.read_pairs.ensures.len ∙ (ap length c.as_mut_slice.ensures.value ∙ begun_anew.count) in (
      c.block.invariant.0,
      sound_all n c.is_some.result c.args.reference c.block.inside.reference c.block.inside.values.items c.read_pairs.new.values begun_anew count
          c.block_len.ensures.most c.is_some.ensures c.read_pairs.ensures.placed,
    )

pub returns : goal.returns
returns c =
    let n = c.block_len.result in
    let begun_anew = begun n c.args.reference c.block.inside.reference c.block.inside.values.items c.restart.new.self c.block.view_is
    c.restart.ensures.reference c.restart.ensures.len c.block.invariant.1.placed in
    let shown = ap length c.as_mut_slice.ensures.value ∙ begun_anew.count in record {
      taken = pairs_filled c.args.reference c.is_some.result (2 ^ c.args.params.now.bits) (c.args.params.now.block_size / 2) _ (bits_at c.args.reader.now)
          (bits_at c.read_pairs.new.reader) c.read_pairs.new.values _ c.read_pairs.result (pow_pos c.args.params.now.bits) c.is_some.ensures
          (ap (λ m. m / 2) (shown ∙ c.block_len.ensures.value))
          (block_with_all n c.args.reference c.block.inside.reference c.block.inside.values.items c.read_pairs.new.values begun_anew
          (c.read_pairs.ensures.len ∙ shown)) c.read_pairs.ensures.taken.taken;
      list = search rules;
      within = search rules;
    }
