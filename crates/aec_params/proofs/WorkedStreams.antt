-- The coded bytes of small inputs, computed from the definitions. Each result is worked out by hand
-- from the format's rules, so the checker refuses a wrong definition.
use Rattle.std.proofs.Common.{◌≡◌, ℕ, pos, List, [], ◌∷◌, ◌++◌, map, replicate, length, refl}
use Rattle.aec_params.specs.declared.settings.Settings.{Settings}
use Rattle.aec_params.specs.Codewords.{bytes_of}
use Rattle.aec_params.specs.Streams.{stream_of}
use Rattle.aec_params.proofs.WorkedSettings.{usual, with_interval, unprocessed, padded, restricted_two, twelve_bits}

-- the coded bytes of unsigned samples
abbrev coded : Settings → List ℕ → List ℕ
coded s samples = bytes_of (stream_of s (map pos samples))

pub no_samples : coded usual [] ≡ []
no_samples = refl

pub eight_zeros : coded usual (replicate 8 0) ≡ 0x00 ∷ 0x08 ∷ []
eight_zeros = refl

pub eight_zeros_bits : length (stream_of usual (map pos (replicate 8 0))) ≡ 13
eight_zeros_bits = refl

pub ramp : coded usual (0 ∷ 1 ∷ 2 ∷ 3 ∷ 4 ∷ 5 ∷ 6 ∷ 7 ∷ []) ≡ 0x20 ∷ 0x09 ∷ 0x24 ∷ 0x92 ∷ []
ramp = refl

pub five_sevens : coded usual (replicate 5 7) ≡ 0x00 ∷ 0x78 ∷ []
five_sevens = refl

pub seventeen_zeros : coded usual (replicate 17 0) ≡ 0x00 ∷ 0x04 ∷ 0x00 ∷ 0x20 ∷ []
seventeen_zeros = refl

pub seventeen_zeros_padded : coded padded (replicate 17 0) ≡ 0x00 ∷ 0x04 ∷ 0x00 ∷ 0x08 ∷ []
seventeen_zeros_padded = refl

pub forty_zeros : coded (with_interval 64) (replicate 40 0) ≡ 0x00 ∷ 0x00 ∷ 0x80 ∷ []
forty_zeros = refl

-- without preprocessing: a run of 6 that does not end its segment, then second extension
pub run_before_a_block : coded (record unprocessed { interval = 8 }) (replicate 48 0 ++ (1 ∷ replicate 7 0)) ≡ 0x00 ∷ 0x22 ∷ 0xF0 ∷ []
run_before_a_block = refl

-- second extension and no compression tie at 17 bits
pub restricted_tie : coded restricted_two (replicate 7 0 ++ (3 ∷ [])) ≡ 0x80 ∷ 0x01 ∷ 0x80 ∷ []
restricted_tie = refl

pub restricted_tie_bits : length (stream_of restricted_two (map pos (replicate 7 0 ++ (3 ∷ [])))) ≡ 17
restricted_tie_bits = refl

-- a run of 64 blocks, then a run of one in the next segment
pub two_segments : coded (with_interval 128) (replicate 520 0) ≡ 0x00 ∷ 0x00 ∷ 0x84 ∷ []
two_segments = refl

pub one_sample_of_twelve_bits : coded twelve_bits (1 ∷ []) ≡ 0x00 ∷ 0x00 ∷ 0xC0 ∷ []
one_sample_of_twelve_bits = refl

pub another_sample_of_twelve_bits : coded twelve_bits (256 ∷ []) ≡ 0x00 ∷ 0x80 ∷ 0x40 ∷ []
another_sample_of_twelve_bits = refl
