use Rattle.aec_bits.proofs.RefusalLaws.{overwrite_fits, append_fits, truncate_fits, insert_fits, remove_fits}
use Rattle.aec_bits.proofs.laws.allows_what_fits.Goals as goal

pub returns : goal.returns
returns c = λ f limit first len s values held. (
  overwrite_fits f limit first s values held,
  append_fits f limit s values held,
  truncate_fits f limit first s,
  insert_fits f limit first s values held,
  remove_fits f limit first len s,
)
