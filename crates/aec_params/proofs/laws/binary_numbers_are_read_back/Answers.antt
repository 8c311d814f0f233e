use Rattle.aec_params.proofs.CodewordLaws.{bits_number-binary, bits_number-below, binary-bits_number}
use Rattle.aec_params.proofs.laws.binary_numbers_are_read_back.Goals as goal

pub returns : goal.returns
returns c = record { number = bits_number-binary; below = bits_number-below; bits = binary-bits_number }
