use Rattle.std.proofs.Common.{pos}
use Rattle.aec_bits.proofs.RefusalLaws.{append_first_value, overwrite_first_value, insert_first_value}
use Rattle.aec_bits.proofs.laws.names_the_first_value.Goals as goal

pub returns : goal.returns
returns c = λ f limit first s values i within held bad. (
  λ fits. overwrite_first_value f limit first s values i (pos 0) fits within held bad,
  λ fits. append_first_value f limit s values i (pos 0) fits within held bad,
  λ inside fits. insert_first_value f limit first s values i (pos 0) inside fits within held bad,
)
