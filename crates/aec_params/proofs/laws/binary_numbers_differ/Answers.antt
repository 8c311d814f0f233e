use Rattle.aec_params.proofs.CodewordLaws.{binary-prefix_free}
use Rattle.aec_params.proofs.laws.binary_numbers_differ.Goals as goal

pub returns : goal.returns
returns c = binary-prefix_free
