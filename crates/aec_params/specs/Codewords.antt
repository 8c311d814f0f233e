-- The two codewords that everything is written with, and the bytes that bits fill.
use Rattle.std.specs.Prelude.{ℕ, zero, suc, ◌+◌, ◌/◌, ◌%◌, ◌^◌, Bool, true, false, ◌==◌, cond, List, [], ◌∷◌, ◌++◌, length, map, replicate}
use Rattle.aec_params.specs.Cutting.{pieces_of, up_to_multiple}

-- the fundamental sequence of v: v zeros and a one (§5; the code appends the number 1 in v + 1
-- bits, and zero words)
abbrev pub fs : ℕ → List Bool
fs v = replicate v false ++ (true ∷ [])

-- v in w bits, the most significant first (§5; by quotients, where the code shifts)
abbrev pub binary : ℕ → ℕ → List Bool
binary zero v = []
binary (suc w) v = (v / 2 ^ w % 2 == 1) ∷ binary w v

-- the number that bits spell, the most significant first: the inverse of `binary` (§5; a sum of
-- powers, where the code shifts words)
abbrev pub bits_number : List Bool → ℕ
bits_number [] = 0
bits_number (b ∷ bits) = cond b (2 ^ length bits) 0 + bits_number bits

-- bits filled with zeros up to a byte boundary (§10; a longer list, where the code reads the zeros
-- that its words hold past the last bit)
abbrev pub padded_to_byte : List Bool → List Bool
padded_to_byte bits = bits ++ replicate (up_to_multiple 8 (length bits)) false

-- the bytes that bits fill, the last one filled with zeros (§10; the list of all bytes, where the
-- code computes the byte that is asked for)
abbrev pub bytes_of : List Bool → List ℕ
bytes_of bits = map bits_number (pieces_of 8 (padded_to_byte bits))

-- the bits of bytes: up to padding the inverse of `bytes_of`, by the law `bytes_are_bits` (§10;
-- byte by byte, where the code joins eight bytes to a word)
abbrev pub bits_of_bytes : List ℕ → List Bool
bits_of_bytes [] = []
bits_of_bytes (b ∷ bytes) = binary 8 b ++ bits_of_bytes bytes
