-- Even block sizes: which settings allow them, and how blocks of 10 are built and coded, computed
-- from the definitions. Each value is worked out by hand from the format's rules.
use Rattle.std.proofs.Common.{◌≡◌, ℕ, ◌+◌, true, false, pos, Some, None, List, [], ◌∷◌, ◌++◌, map, replicate, length, refl}
use Rattle.aec_params.specs.declared.settings.Settings.{Settings}
use Rattle.aec_params.specs.declared.fault.Fault.TheVariants.{BitsPerSample, BlockSize, EvenBlockSize, Interval}
use Rattle.aec_params.specs.Params.{settings_fault, interval_len}
use Rattle.aec_params.specs.Codewords.{bytes_of}
use Rattle.aec_params.specs.Streams.{stream_of}
use Rattle.aec_params.specs.Blocks.{Block, blocks_of}
use Rattle.aec_params.specs.CodedDataSets.{value_pairs, split_values, cds_bits}
use Rattle.aec_params.specs.Spellings.{spellings, shortest_spelling}
use Rattle.aec_params.proofs.WorkedSettings.{tens}

-- ---- settings

pub ten_with_the_flag : settings_fault (tens 2) ≡ None
ten_with_the_flag = refl

pub ten_without_the_flag : settings_fault (record (tens 2) { even_blocks = false }) ≡ Some BlockSize
ten_without_the_flag = refl

pub the_other_even_ends : settings_fault (record (tens 2) { block_size = 8 }) ∷ settings_fault (record (tens 2) { block_size = 64 }) ∷ [] ≡ None ∷ None ∷ []
the_other_even_ends = refl

pub nine_in_a_block : settings_fault (record (tens 2) { block_size = 9 }) ≡ Some EvenBlockSize
nine_in_a_block = refl

pub six_in_a_block : settings_fault (record (tens 2) { block_size = 6 }) ≡ Some EvenBlockSize
six_in_a_block = refl

pub sixty_six_in_a_block : settings_fault (record (tens 2) { block_size = 66 }) ≡ Some EvenBlockSize
sixty_six_in_a_block = refl

pub nine_before_the_interval : settings_fault (record (tens 0) { block_size = 9 }) ≡ Some EvenBlockSize
nine_before_the_interval = refl

pub no_interval_of_tens : settings_fault (tens 0) ≡ Some Interval
no_interval_of_tens = refl

pub width_before_an_odd_size : settings_fault (record (tens 2) { bits = 33; block_size = 9 }) ≡ Some BitsPerSample
width_before_an_odd_size = refl

pub longest_interval_of_tens : interval_len (tens 4096) ≡ 40960
longest_interval_of_tens = refl

-- ---- blocks and choices

abbrev lengths : Settings → Block → List ℕ
lengths s b = map (λ c. length (cds_bits s c)) (spellings s b)

abbrev of_samples : Settings → List ℕ → List Block
of_samples s samples = blocks_of s (map pos samples)

-- the coded bytes of unsigned samples
abbrev coded : Settings → List ℕ → List ℕ
coded s samples = bytes_of (stream_of s (map pos samples))

abbrev ten_numbers : List ℕ
ten_numbers = 0 ∷ 1 ∷ 2 ∷ 3 ∷ 4 ∷ 5 ∷ 6 ∷ 7 ∷ 8 ∷ 9 ∷ []

abbrev ramp_block : Block
ramp_block = record { reference = Some 0; values = 0 ∷ 1 ∷ replicate 8 2 }

pub ramp_blocks : of_samples (tens 1) ten_numbers ≡ ramp_block ∷ []
ramp_blocks = refl

-- no compression 83 bits, second extension 67, k = 0 and k = 1 both 37, k = 2 38, greater k more
pub ramp_lengths : lengths (tens 1) ramp_block ≡ 83 ∷ 67 ∷ 37 ∷ 37 ∷ 38 ∷ 47 ∷ 56 ∷ 65 ∷ []
ramp_lengths = refl

pub ramp_choice : shortest_spelling (tens 1) ramp_block ≡ record { reference = Some 0; body = split_values 0 (1 ∷ replicate 8 2) }
ramp_choice = refl

pub ramp : coded (tens 1) ten_numbers ≡ 0x20 ∷ 0x09 ∷ 0x24 ∷ 0x92 ∷ 0x48 ∷ []
ramp = refl

pub ramp_bits : length (stream_of (tens 1) (map pos ten_numbers)) ≡ 37
ramp_bits = refl

pub ramp_of_two_blocks : coded (tens 2) (ten_numbers ++ map (λ x. x + 10) ten_numbers)
    ≡ 0x20 ∷ 0x09 ∷ 0x24 ∷ 0x92 ∷ 0x49 ∷ 0x24 ∷ 0x92 ∷ 0x49 ∷ 0x24 ∷ []
ramp_of_two_blocks = refl

-- a block of eight samples gets two copies of the last sample as filler
abbrev filled_block : Block
filled_block = record { reference = Some 0; values = 0 ∷ 1 ∷ replicate 6 2 ++ (0 ∷ 0 ∷ []) }

pub filled_blocks : of_samples (tens 2) (0 ∷ 1 ∷ 2 ∷ 3 ∷ 4 ∷ 5 ∷ 6 ∷ 7 ∷ []) ≡ filled_block ∷ []
filled_blocks = refl

pub filled_lengths : lengths (tens 2) filled_block ≡ 83 ∷ 55 ∷ 33 ∷ 35 ∷ 38 ∷ 47 ∷ 56 ∷ 65 ∷ []
filled_lengths = refl

pub filled : coded (tens 2) (0 ∷ 1 ∷ 2 ∷ 3 ∷ 4 ∷ 5 ∷ 6 ∷ 7 ∷ []) ≡ 0x20 ∷ 0x09 ∷ 0x24 ∷ 0x93 ∷ 0x80 ∷ []
filled = refl

-- a sample of 1 among zeros: the fifth pair is the last two values
abbrev spike_block : Block
spike_block = record { reference = Some 0; values = replicate 4 0 ++ (1 ∷ 1 ∷ replicate 4 0) }

pub spike_blocks : of_samples (tens 2) (replicate 4 0 ++ (1 ∷ replicate 5 0)) ≡ spike_block ∷ []
spike_blocks = refl

pub spike_lengths : lengths (tens 2) spike_block ≡ 83 ∷ 21 ∷ 22 ∷ 29 ∷ 38 ∷ 47 ∷ 56 ∷ 65 ∷ []
spike_lengths = refl

pub spike_choice : shortest_spelling (tens 2) spike_block ≡ record { reference = Some 0; body = value_pairs (replicate 4 0 ++ (1 ∷ 1 ∷ replicate 4 0)) }
spike_choice = refl

pub spike : coded (tens 2) (replicate 4 0 ++ (1 ∷ replicate 5 0)) ≡ 0x10 ∷ 0x0C ∷ 0x38 ∷ []
spike = refl

-- ---- without preprocessing

abbrev unprocessed_tens : Settings
unprocessed_tens = record (tens 8) { preprocess = false }

abbrev numbers_block : Block
numbers_block = record { reference = None; values = ten_numbers }

pub numbers_lengths : lengths unprocessed_tens numbers_block ≡ 83 ∷ 339 ∷ 58 ∷ 43 ∷ 41 ∷ 45 ∷ 53 ∷ 63 ∷ []
numbers_lengths = refl

pub numbers_choice : shortest_spelling unprocessed_tens numbers_block ≡ record { reference = None; body = split_values 2 ten_numbers }
numbers_choice = refl

pub numbers : coded unprocessed_tens ten_numbers ≡ 0x7E ∷ 0xAA ∷ 0x48 ∷ 0xD8 ∷ 0xD8 ∷ 0x80 ∷ []
numbers = refl

pub one_bit_numbers : coded (record unprocessed_tens { bits = 1 }) (1 ∷ 0 ∷ 1 ∷ 1 ∷ 0 ∷ 0 ∷ 1 ∷ 0 ∷ 1 ∷ 1 ∷ []) ≡ 0xF6 ∷ 0x58 ∷ []
one_bit_numbers = refl

-- a run of 6 that does not end its segment, then second extension
pub run_before_a_block : coded unprocessed_tens (replicate 60 0 ++ (1 ∷ replicate 9 0)) ≡ 0x00 ∷ 0x22 ∷ 0xF8 ∷ []
run_before_a_block = refl

-- ---- runs

pub five_sevens : coded (tens 2) (replicate 5 7) ≡ 0x00 ∷ 0x78 ∷ []
five_sevens = refl

pub twenty_one_zeros : coded (tens 2) (replicate 21 0) ≡ 0x00 ∷ 0x04 ∷ 0x00 ∷ 0x20 ∷ []
twenty_one_zeros = refl

pub twenty_one_zeros_padded : coded (record (tens 2) { pad = true }) (replicate 21 0) ≡ 0x00 ∷ 0x04 ∷ 0x00 ∷ 0x08 ∷ []
twenty_one_zeros_padded = refl

pub fifty_zeros : coded (tens 64) (replicate 50 0) ≡ 0x00 ∷ 0x00 ∷ 0x80 ∷ []
fifty_zeros = refl

-- a run of 64 blocks, then a run of one in the next segment
pub two_segments : coded (tens 128) (replicate 650 0) ≡ 0x00 ∷ 0x00 ∷ 0x84 ∷ []
two_segments = refl
