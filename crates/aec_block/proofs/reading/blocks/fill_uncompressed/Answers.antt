use Rattle.std.proofs.Common.{rules, arith}
use Rattle.aec_block.specs.Gathering.{bits_at}
use Rattle.aec_block.proofs.FillingLemmas.{begun, filled_behind, uncompressed_filled}
use Rattle.aec_block.proofs.reading.blocks.fill_uncompressed.Goals as goal

pub returns : goal.returns
returns c =
    let anew = begun c.block_len.result c.args.reference c.block.inside.reference c.block.inside.values.items c.restart.new.self c.block.view_is
    c.restart.ensures.reference c.restart.ensures.len c.block.invariant.1.placed in
    let filled = filled_behind c.args.params.now c.block_len.result c.reference_places.result c.args.reference c.block.inside.reference
    c.block.inside.values.items c.as_mut_slice.result.now c.read_block_numbers.new.numbers _ anew c.as_mut_slice.ensures.value
    c.reference_places.ensures.value (omega arith) c.block_len.ensures.value c.read_block_numbers.ensures.len in record {
      taken = uncompressed_filled c.args.reference c.args.params.now.bits c.bits.result _ _ (bits_at c.args.reader.now)
          (bits_at c.read_block_numbers.new.reader) c.read_block_numbers.new.numbers _ c.read_block_numbers.result c.bits.ensures.value filled.count
          filled.block c.read_block_numbers.ensures.taken;
      list = search rules;
      within = search rules;
    }
