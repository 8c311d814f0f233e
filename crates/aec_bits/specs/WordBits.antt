-- For proofs alone: no public contract cites this file.
-- The bits of one word, as a name that stays closed in goals.
use Rattle.std.specs.Prelude.{ℕ, Bool, List}
use Rattle.aec_params.specs.Codewords.{binary}

-- a word in 64 bits, the most significant first
unfoldable pub word_bits : ℕ → List Bool
word_bits w = binary 64 w
