use Rattle.aec_bits.proofs.RefusalLaws.{append_past, insert_past_limit}
use Rattle.aec_bits.proofs.laws.judges_the_limit_first.Goals as goal

pub returns : goal.returns
returns c = λ f limit first s values past. (append_past f limit s values past, λ within. insert_past_limit f limit first s values within past)
