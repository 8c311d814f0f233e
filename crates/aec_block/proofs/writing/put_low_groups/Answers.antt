use Rattle.std.proofs.Common.{◌*◌, arith}
use Rattle.aec_params.proofs.CodewordLaws.{length-binary}
use Rattle.aec_block.proofs.LowWordLemmas.{low_parts-group}
use Rattle.aec_block.proofs.WritingLemmas.{gathering-more, room-for_next}
use Rattle.aec_block.proofs.writing.put_low_groups.Goals as goal

pub put-gathered-requires-clause-room : goal.put-gathered-requires-clause-room
put-gathered-requires-clause-room g c =
    room-for_next _ _ _ _ _ _ _ (g.row.N * c.args.width) c.loop-i.invariant c.requires.room
    (low_parts-group c.args.width g.row.N c.loop-i.i c.args.values.now c.low_word-word.result (omega arith)
    c.low_word-word.ensures.bits) (length-binary (g.row.N * c.args.width) _)

pub loop-i-preserved : goal.loop-i-preserved
loop-i-preserved g c =
    gathering-more _ _ _ _ _ _ _ _ _ c.loop-i.invariant
    (low_parts-group c.args.width g.row.N c.loop-i.i c.args.values.now c.low_word-word.result (omega arith)
    c.low_word-word.ensures.bits)
    c.put-gathered.ensures
