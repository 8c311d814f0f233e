use Rattle.aec_params.proofs.CodewordLaws.{fs-prefix_free}
use Rattle.aec_params.proofs.laws.fundamental_sequences_differ.Goals as goal

pub returns : goal.returns
returns c = fs-prefix_free
