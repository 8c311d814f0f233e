use Rattle.aec_interval.proofs.ReachedPlaceLemmas.{place-within}
use Rattle.aec_interval.proofs.stream_reader.StreamReader.seek.Goals as goal

pub seek-requires : goal.seek-requires
seek-requires c = rw (← c.self.view_is) at (place-within _ _ _ _ _ _ c.requires.reached)
