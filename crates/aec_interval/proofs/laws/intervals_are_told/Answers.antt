use Rattle.aec_interval.proofs.EqualLengthLemmas.{equal_lengths}
use Rattle.aec_interval.proofs.laws.intervals_are_told.Goals as goal

pub returns : goal.returns
returns c = λ s v w x y a h k len e. equal_lengths s v w x y a h.held k.held h.some h.fits len e
