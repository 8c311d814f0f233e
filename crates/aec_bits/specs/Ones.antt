-- For proofs alone: no public contract cites this file.
-- Parts of a word in which a 1 bit is searched.
use Rattle.std.specs.Prelude.{ℕ, ◌+◌, ◌^◌, ◌<◌, ◌≤◌, count_ones}
use Rattle.aec_bits.specs.declared.bit_reader.counted_ones.Stretch.{Stretch}

-- the 1 bit that is searched is in this part of a word, of n bits
pub record HasNthOne (n : ℕ) (stretch : Stretch) : Type 0 where
  pub fits : stretch.bits < 2 ^ n
  pub some : 0 < stretch.nth
  pub there : stretch.nth ≤ count_ones stretch.bits
  pub place : stretch.before + n ≤ 64
