-- A workspace as its callers see it.
use Rattle.std.specs.Prelude.{◌≡◌, ℕ, ◌*◌, ◌≤◌, Bool, ℤ, List, ◌++◌, length, take}
use Rattle.std.specs.Int.{div_ceil}
use Rattle.aec_params.specs.Codewords.{bits_of_bytes}
use Rattle.aec_params.specs.Limits.{most_samples}
use Rattle.aec_bits.specs.Codec.{Format, AreHeld, code_of}

-- how much code can grow without an allocation: by this many bits, and by the starts of this many
-- intervals
pub record Room : Type 0 where
  pub bits : ℕ
  pub intervals : ℕ

-- the samples, the most that are allowed, the codec with its counts of calls, and the room of the
-- code (the code keeps no samples)
pub record Contents (C : Type 0) : Type 0 where
  pub samples : List ℤ
  pub limit : ℕ
  pub codec : C
  pub room : Room

-- what always holds for a workspace: an interval has 1 to 262,144 samples, the format holds the
-- samples, and there are no more than the limit, itself at most `most_samples`
pub record IsSound (f : Format) (limit : ℕ) (samples : List ℤ) : Type 0 where
  pub some : 1 ≤ f.most
  pub few : f.most ≤ 262144
  pub held : AreHeld f samples
  pub count : length samples ≤ limit
  pub bound : limit ≤ most_samples

-- The most room that the lists of an edit keep for the next one, where an interval has n samples:
-- for 2n samples before the change and n after it, for 256n bits of code (128 for each of 2n
-- samples), and for 2n starts.
pub record IsScratchRoom (n front back bits starts : ℕ) : Type 0 where
  pub front_fits : front ≤ 2 * n
  pub back_fits : back ≤ n
  pub bits_fit : bits ≤ 128 * (2 * n)
  pub starts_fit : starts ≤ 2 * n

-- how many intervals samples fill
abbrev pub interval_count : Format → List ℤ → ℕ
interval_count f s = div_ceil (length s) f.most

-- where interval i begins in the code of samples: after the code of the samples before it (by the
-- code of the first samples, where the code has an index)
abbrev pub start_of : Format → List ℤ → ℕ → ℕ
start_of f s i = length (code_of f (take (i * f.most) s))

-- the bits of bytes begin with the code of these held samples, whatever follows, and with the code
-- of no other held list of this length (stated for every codec; the code decodes interval by
-- interval)
pub record HasOneReading (f : Format) (bytes : List ℕ) (samples : List ℤ) : Type 0 where
  pub held : AreHeld f samples
  pub begins : (rest : List Bool) × (bits_of_bytes bytes ≡ code_of f samples ++ rest)
  pub only : (others : List ℤ) (rest : List Bool) → AreHeld f others → length others ≡ length samples
      → bits_of_bytes bytes ≡ code_of f others ++ rest → others ≡ samples
