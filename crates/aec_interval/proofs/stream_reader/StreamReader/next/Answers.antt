use Rattle.aec_interval.proofs.ReachedPlaceLemmas.{place-further}
use Rattle.aec_interval.proofs.stream_reader.StreamReader.next.Goals as goal

pub invariant_of-self : goal.invariant_of-self
invariant_of-self c =
    place-further _ _ _ _ _ _ _ _ _ _ c.in-Ok.ensures.ok.sets c.self.invariant c.pos.ensures.value c.in-Ok.ensures.list c.in-Ok.ensures.ok.leads
    c.in-Ok.ensures.over.few c.in-Ok.ensures.over.ends
