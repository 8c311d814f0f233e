use Rattle.std.proofs.Common.{◌∙◌, sym}
use Rattle.aec_interval.proofs.ReachedPlaceLemmas.{place-further}
use Rattle.aec_interval.proofs.SkippingLemmas.{places-skipped}
use Rattle.aec_interval.proofs.stream_reader.StreamReader.skip_few.Goals as goal

pub invariant_of-self : goal.invariant_of-self
invariant_of-self c =
    place-further _ _ _ _ _ _ _ _ _ _ c.in-Ok.ensures.ok.sets c.self.invariant c.pos.ensures.value c.in-Ok.ensures.list c.in-Ok.ensures.ok.leads
    c.in-Ok.ensures.few c.in-Ok.ensures.ends

pub returns-in-Ok-clause-skipped : goal.returns-in-Ok-clause-skipped
returns-in-Ok-clause-skipped c =
    let wanted = sym c.wants_more.ensures ∙ c.if-not-wants_more.false in
    places-skipped _ _ _ _ c.self.inside.reader.list _ _ c.self.inside.reader.pos _ _ _ _ c.self.view_is c.in-Ok.ensures.allowed c.pos.ensures.value
    c.in-Ok.ensures.list (c.self.invariant.begins wanted) wanted c.in-Ok.ensures.ok c.in-Ok.ensures.forward c.count_asked.ensures
