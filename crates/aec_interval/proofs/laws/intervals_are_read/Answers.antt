use Rattle.aec_interval.proofs.IntervalLemmas.{ReadsBlocks-unpadded_bits}
use Rattle.aec_interval.proofs.laws.intervals_are_read.Goals as goal

pub returns : goal.returns
returns c = λ s samples a h. ReadsBlocks-unpadded_bits s samples a h.held h.some h.fits
