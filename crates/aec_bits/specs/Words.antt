-- Bits that are kept in words of 64, the most significant first.
use Rattle.std.specs.Prelude.{ℕ, Bool, List, [], ◌∷◌, ◌++◌}
use Rattle.aec_params.specs.Codewords.{binary}

-- the bits of words, one word after the other
abbrev pub bits_of_words : List ℕ → List Bool
bits_of_words [] = []
bits_of_words (w ∷ words) = binary 64 w ++ bits_of_words words
