use Rattle.std.proofs.Common.{arith, ◌∙◌}
use Rattle.aec_edit.specs.Pieces.{all_places, places_of, places_after}
use Rattle.aec_edit.proofs.PieceLemmas.{exchanged_at}
use Rattle.aec_edit.proofs.pieces.Pieces.exchange.Goals as goal

pub returns-clause-ok : goal.returns-clause-ok
returns-clause-ok c =
    let there = c.in_ok-forth_to.ensures.least c.in_ok-back_to.ensures.there in
    exchanged_at c.args.piece (all_places c.args.self.now) (places_of c.forth_to.new.self.before.items) (places_after c.forth_to.new.self.after.items)
    (places_after c.drop_next.new.after.items) c.drop_next.new.after.items c.push.new.self.items c.args.from c.args.to c.requires.order
    (omega (arith, there, c.in_ok-forth_to.ensures.cut)) (c.in_ok-forth_to.ensures.same ∙ c.in_ok-back_to.ensures.same)
    c.in_ok-drop_next.ensures.ok c.in_ok-push.ensures.items
