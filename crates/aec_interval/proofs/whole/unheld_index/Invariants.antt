use Rattle.std.proofs.Common.{◌≡◌, drop}
use Rattle.aec_params.specs.Params.{is_held}
use Rattle.aec_bits.specs.Refusals.{first_unheld}
use Rattle.aec_interval.proofs.whole.unheld_index.Given as goal

-- every number so far is a sample, so the first that is no sample is among the others
abbrev pub invariant-loop-index : goal.invariant-loop-index
invariant-loop-index l = first_unheld (is_held l.params) l.index (drop l.index l.samples) ≡ first_unheld (is_held l.params) 0 l.samples
