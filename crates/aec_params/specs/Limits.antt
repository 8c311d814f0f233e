-- The limits of a run's input: the greatest number of samples, and of bytes of coded data or of a
-- script.
use Rattle.std.specs.Prelude.{ℕ, ◌≤◌, ◌*◌, ◌^◌}

-- the greatest number of samples of a stream: `MAX_SAMPLES` of the code
abbrev pub most_samples : ℕ
most_samples = 2 ^ 32

-- 2^34. The numbers of all blocks of a reading are below this: a block has at least one sample, and
-- the last coded data set may have blocks past the count, but fewer than an interval. Twice
-- `most_samples` would suffice
abbrev pub most_blocks : ℕ
most_blocks = 4 * most_samples

-- the greatest number of samples, and of bytes
pub record Caps : Type 0 where
  pub samples : ℕ
  pub bytes : ℕ

-- caps that a run can have (at most `most_samples` samples and 2^40 bytes; the program has those of
-- COMMAND: Limits, time and memory)
pub record AreLimits (caps : Caps) : Type 0 where
  pub samples : caps.samples ≤ most_samples
  pub bytes : caps.bytes ≤ 2 ^ 40
