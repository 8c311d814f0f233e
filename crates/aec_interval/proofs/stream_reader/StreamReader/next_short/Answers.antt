use Rattle.std.proofs.Common.{◌<◌, ◌∙◌, sym, arith}
use Rattle.aec_interval.proofs.ReachedPlaceLemmas.{place-further}
use Rattle.aec_interval.proofs.ShortLemmas.{place-several}
use Rattle.aec_interval.proofs.stream_reader.StreamReader.next_short.Goals as goal

pub invariant_of-self-2 : goal.invariant_of-self-2
invariant_of-self-2 c =
    let further : c.self.inside.block < c.read_short-end.result = omega arith in
    let reached = c.read_short-end.ensures.reached further in
    place-further _ _ _ _ _ _ _ _ _ _ reached.sets c.self.invariant c.pos.ensures.value c.read_short-end.ensures.list reached.leads
    c.read_short-end.ensures.few (λ wanted. c.read_short-end.ensures.ends)

pub returns-clause-read : goal.returns-clause-read
returns-clause-read c =
    let further : c.self.inside.block < c.read_short-end.result = omega arith in
    let wanted = sym c.wants_more.ensures ∙ c.if-not-wants_more.false in
    λ read. place-several _ _ _ _ c.self.inside.reader.list _ _ c.self.inside.reader.pos _ _ _ _ _ c.self.view_is c.pos.ensures.value
    c.read_short-end.ensures.list (c.self.invariant.begins wanted) wanted (c.read_short-end.ensures.reached further) further c.cut_to_count.ensures.items
