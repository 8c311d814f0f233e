use Rattle.std.proofs.Common.{◌+◌, refl, arith}
use Rattle.aec_edit.specs.Pieces.{places_after}
use Rattle.aec_edit.proofs.PieceLemmas.{cut_piece}
use Rattle.aec_edit.proofs.pieces.take_next.Goals as goal

pub returns-clause-ok : goal.returns-clause-ok
returns-clause-ok c =
    let piece = c.pop_piece-piece.result in
    cut_piece (places_after c.args.after.now.items) piece.first piece.stop (piece.first + c.args.most) c.args.most c.pop_piece-piece.new.after.items
    c.push.new.self.items refl (omega (arith, c.len.ensures, c.if-len-most.false)) c.pop_piece-piece.ensures.taken c.in_ok-push.ensures.items
