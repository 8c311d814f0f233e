use Rattle.std.proofs.Common.{sym}
use Rattle.std.proofs.lemmas.Int.{to_z-of_z}
use Rattle.aec_block.proofs.MappingLemmas.{mapped_value-code}
use Rattle.aec_block.proofs.mapping.map.Goals as goal

pub returns-then-preprocess-clause-value : goal.returns-then-preprocess-clause-value
returns-then-preprocess-clause-value c =
    let fits_p = c.ranges.p in
    let fits_x = c.ranges.x in
    let at_p = simp to_z-of_z at c.offset_of.ensures.value in
    let at_x = simp to_z-of_z at c.offset_of-then-preprocess.ensures.value in
    sym (mapped_value-code c.args.params.now c.args.p c.args.x _ _ _ _ c.greatest_offset-top.ensures.allowed (cc) c.requires.prediction
    c.requires.sample c.greatest_offset-top.ensures.value at_p at_x (sym c.map_offset.ensures.value))
