use Rattle.aec_params.proofs.CodewordLaws.{length-fs, length-binary}
use Rattle.aec_params.proofs.laws.codewords_have_their_lengths.Goals as goal

pub returns : goal.returns
returns c = record { of_fs = length-fs; of_binary = length-binary }
