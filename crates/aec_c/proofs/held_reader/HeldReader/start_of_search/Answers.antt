use Rattle.std.proofs.Common.{ap, ◌∙◌}
use Rattle.std.specs.Int.{div_ceil}
use Rattle.aec_c.proofs.StandingLemmas.{way_here, first_here}
use Rattle.aec_c.proofs.held_reader.HeldReader.start_of_search.Goals as goal

pub returns-then-here-interval-clause-way : goal.returns-then-here-interval-clause-way
returns-then-here-interval-clause-way c =
    way_here _ _ _ _ _ _ c.args.self.now c.self.view_is c.self.invariant c.args.interval c.div_ceil-here.result
    c.interval.ensures.allowed (c.div_ceil-here.ensures ∙ ap (div_ceil c.self.inside.at.place.block) (c.from.ensures ∙ c.interval.ensures.value))
    c.if-here-interval.true

pub returns-else-here-interval-clause-standing : goal.returns-else-here-interval-clause-standing
returns-else-here-interval-clause-standing c = first_here _ _ _ _ _ _ c.args.self.now c.self.view_is c.self.invariant
