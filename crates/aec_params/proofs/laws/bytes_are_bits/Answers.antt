use Rattle.aec_params.proofs.ByteLaws.{length-padded_to_byte, bits_of_bytes-bytes_of, length-bytes_of, bytes_of-below, bytes_of-bits_of_bytes}
use Rattle.aec_params.proofs.laws.bytes_are_bits.Goals as goal

pub returns : goal.returns
returns c = record {
  filled = length-padded_to_byte;
  bits = bits_of_bytes-bytes_of;
  count = length-bytes_of;
  below = bytes_of-below;
  bytes = bytes_of-bits_of_bytes;
}
