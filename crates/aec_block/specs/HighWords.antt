-- For proofs alone: no public contract cites this file.
-- What the private functions of `writing::joined_high_parts` compute: words of codewords. The
-- contract of `write_block` cites the bits of the spelling instead.
use Rattle.std.specs.Prelude.{ℕ, ◌+◌, List, ◌++◌, length}
use Rattle.aec_params.specs.Codewords.{binary}
use Rattle.aec_block.specs.Written.{high_parts, Spells}

-- a number of `used` bits, continued by the codewords of values without their k low bits
abbrev pub GoesOn : ℕ → ℕ → ℕ → List ℕ → ℕ → Type 0
GoesOn k used start values word =
    Spells (used + length (high_parts k values)) (binary used start ++ high_parts k values) word
