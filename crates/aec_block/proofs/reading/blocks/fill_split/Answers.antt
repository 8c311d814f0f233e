use Rattle.std.proofs.Common.{rules, ◌^◌, arith}
use Rattle.aec_block.specs.Gathering.{bits_at}
use Rattle.aec_block.proofs.FillingLemmas.{begun, filled_behind, split_filled}
use Rattle.aec_block.proofs.reading.blocks.fill_split.Goals as goal

pub returns : goal.returns
returns c =
    let anew = begun c.block_len.result c.args.reference c.block.inside.reference c.block.inside.values.items c.restart.new.self c.block.view_is
    c.restart.ensures.reference c.restart.ensures.len c.block.invariant.1.placed in
    let filled = filled_behind c.args.params.now c.block_len.result c.reference_places.result c.args.reference c.block.inside.reference
    c.block.inside.values.items c.as_mut_slice.result.now c.read_block_split.new.values _ anew c.as_mut_slice.ensures.value
    c.reference_places.ensures.value (omega arith) c.block_len.ensures.value c.read_block_split.ensures.len in record {
      taken = split_filled c.args.reference (2 ^ c.args.params.now.bits) c.args.k _ _ (bits_at c.args.reader.now) (bits_at c.read_block_split.new.reader)
          c.read_block_split.new.values _ c.read_block_split.result filled.count filled.block c.read_block_split.ensures.taken;
      list = search rules;
      within = search rules;
    }
