-- The samples 0 to 255, each in eight bits, in intervals of at most four.
use Rattle.std.specs.Prelude.{Bool, ◌&&◌, List, ℤ, pos, nat_abs, int_le, int_lt}
use Rattle.std.specs.List.{flat_map}
use Rattle.aec_params.specs.Codewords.{binary}
use Rattle.aec_bits.specs.Codec.{Format}

-- the sample x in eight bits
abbrev pub octet_bits : ℤ → List Bool
octet_bits x = binary 8 (nat_abs x)

-- whether x is one of the samples 0 to 255
abbrev pub is_octet : ℤ → Bool
is_octet x = int_le (pos 0) x && int_lt x (pos 256)

-- the format of the codec `Octets`
abbrev pub octets : Format
octets = record { bits_of = flat_map octet_bits; most = 4; holds = is_octet }
