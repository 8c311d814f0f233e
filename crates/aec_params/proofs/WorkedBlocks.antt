-- Stored samples, mapped values, lengths of options and choices, computed from the definitions.
use Rattle.std.proofs.Common.{true, ◌≡◌, ℕ, pos, negsuc, Some, None, Ok, Err, List, [], ◌∷◌, ◌++◌, map, replicate, length, refl}
use Rattle.aec_params.specs.declared.settings.Settings.{Settings}
use Rattle.aec_params.specs.declared.fault.Fault.TheVariants.{BitsPerSample, BlockSize, Interval, RestrictedWidth}
use Rattle.aec_params.specs.Params.{settings_fault, id_len, k_max}
use Rattle.aec_params.specs.Stored.{samples_of_bytes, stored_bytes}
use Rattle.aec_params.specs.Mapping.{mapped_value}
use Rattle.aec_params.specs.Blocks.{Block, blocks_of}
use Rattle.aec_params.specs.CodedDataSets.{uncompressed_values, value_pairs, split_values, cds_bits, pair_number}
use Rattle.aec_params.specs.Spellings.{spellings, shortest_spelling}
use Rattle.aec_params.proofs.WorkedSettings.{usual, restricted_two, twelve_bits, five_signed, twenty_bits}

-- ---- settings

pub no_bits : settings_fault (record usual { bits = 0 }) ≡ Some BitsPerSample
no_bits = refl

pub width_before_block_size : settings_fault (record usual { bits = 33; block_size = 10 }) ≡ Some BitsPerSample
width_before_block_size = refl

pub ten_in_a_block : settings_fault (record usual { block_size = 10 }) ≡ Some BlockSize
ten_in_a_block = refl

pub no_interval : settings_fault (record usual { interval = 0 }) ≡ Some Interval
no_interval = refl

pub long_interval : settings_fault (record usual { interval = 4097 }) ≡ Some Interval
long_interval = refl

pub wide_restricted : settings_fault (record usual { restricted = true }) ≡ Some RestrictedWidth
wide_restricted = refl

pub narrow_restricted : settings_fault (record usual { bits = 4; restricted = true }) ≡ None
narrow_restricted = refl

pub narrow_restricted_id : id_len (record usual { bits = 4; restricted = true }) ≡ 2
narrow_restricted_id = refl

pub narrow_restricted_k : k_max (record usual { bits = 4; restricted = true }) ≡ Some 1
narrow_restricted_k = refl

pub two_bits_have_no_k : k_max restricted_two ≡ None
two_bits_have_no_k = refl

-- ---- stored samples

pub five_bits_read : samples_of_bytes five_signed (0x1F ∷ 0xFF ∷ 0xF0 ∷ 0x0F ∷ []) ≡ Ok (negsuc 0 ∷ negsuc 0 ∷ negsuc 15 ∷ pos 15 ∷ [])
five_bits_read = refl

pub five_bits_written : map (stored_bytes five_signed) (negsuc 0 ∷ negsuc 0 ∷ negsuc 15 ∷ pos 15 ∷ [])
    ≡ (0xFF ∷ []) ∷ (0xFF ∷ []) ∷ (0xF0 ∷ []) ∷ (0x0F ∷ []) ∷ []
five_bits_written = refl

pub wrong_sign_bits : samples_of_bytes five_signed (0xE0 ∷ []) ≡ Err 0
wrong_sign_bits = refl

abbrev three_bytes_msb : Settings
three_bytes_msb = record twenty_bits { three_byte = true; msb_first = true }

pub three_bytes_read : samples_of_bytes three_bytes_msb (0x0F ∷ 0xFF ∷ 0xFF ∷ []) ≡ Ok (pos 1048575 ∷ [])
three_bytes_read = refl

pub three_bytes_too_large : samples_of_bytes three_bytes_msb (0x10 ∷ 0x00 ∷ 0x00 ∷ []) ≡ Err 0
three_bytes_too_large = refl

pub four_bytes_read : samples_of_bytes twenty_bits (0xFF ∷ 0xFF ∷ 0x0F ∷ 0x00 ∷ []) ≡ Ok (pos 1048575 ∷ [])
four_bytes_read = refl

pub left_over_byte : samples_of_bytes twelve_bits (0x01 ∷ 0x00 ∷ 0x02 ∷ []) ≡ Ok (pos 1 ∷ [])
left_over_byte = refl

pub left_over_byte_msb : samples_of_bytes (record twelve_bits { msb_first = true }) (0x01 ∷ 0x00 ∷ 0x02 ∷ []) ≡ Ok (pos 256 ∷ [])
left_over_byte_msb = refl

pub bad_signed_twelve : samples_of_bytes (record twelve_bits { signed = true }) (0xFF ∷ 0xF7 ∷ []) ≡ Err 0
bad_signed_twelve = refl

pub second_is_bad : samples_of_bytes twelve_bits (0x01 ∷ 0x00 ∷ 0x00 ∷ 0x10 ∷ 0x00 ∷ 0x20 ∷ []) ≡ Err 1
second_is_bad = refl

-- ---- mapping

pub above_within : mapped_value usual (pos 3) (pos 10) ≡ 10
above_within = refl

pub below_within : mapped_value usual (pos 3) (pos 1) ≡ 3
below_within = refl

pub below_beyond : mapped_value usual (pos 250) (pos 240) ≡ 15
below_beyond = refl

pub above_at_the_edge : mapped_value usual (pos 250) (pos 255) ≡ 10
above_at_the_edge = refl

-- ---- lengths and choices

abbrev lengths : Settings → Block → List ℕ
lengths s b = map (λ c. length (cds_bits s c)) (spellings s b)

abbrev of_samples : Settings → List ℕ → List Block
of_samples s samples = blocks_of s (map pos samples)

abbrev ramp_block : Block
ramp_block = record { reference = Some 0; values = 0 ∷ 1 ∷ 2 ∷ 2 ∷ 2 ∷ 2 ∷ 2 ∷ 2 ∷ [] }

pub ramp_blocks : of_samples usual (0 ∷ 1 ∷ 2 ∷ 3 ∷ 4 ∷ 5 ∷ 6 ∷ 7 ∷ []) ≡ ramp_block ∷ []
ramp_blocks = refl

-- no compression 67 bits, second extension 54, k = 0 and k = 1 both 31, k = 2 32, greater k more
pub ramp_lengths : lengths usual ramp_block ≡ 67 ∷ 54 ∷ 31 ∷ 31 ∷ 32 ∷ 39 ∷ 46 ∷ 53 ∷ []
ramp_lengths = refl

pub ramp_choice : shortest_spelling usual ramp_block ≡ record { reference = Some 0; body = split_values 0 (1 ∷ 2 ∷ 2 ∷ 2 ∷ 2 ∷ 2 ∷ 2 ∷ []) }
ramp_choice = refl

abbrev tied_block : Block
tied_block = record { reference = Some 0; values = replicate 7 0 ++ (3 ∷ []) }

pub tied_blocks : of_samples restricted_two (replicate 7 0 ++ (3 ∷ [])) ≡ tied_block ∷ []
tied_blocks = refl

pub tied_lengths : lengths restricted_two tied_block ≡ 17 ∷ 17 ∷ []
tied_lengths = refl

pub tied_choice : shortest_spelling restricted_two tied_block ≡ record { reference = Some 0; body = uncompressed_values (replicate 6 0 ++ (3 ∷ [])) }
tied_choice = refl

abbrev spike_block : Block
spike_block = record { reference = Some 0; values = 0 ∷ 0 ∷ 0 ∷ 0 ∷ 1 ∷ 1 ∷ 0 ∷ 0 ∷ [] }

-- a sample of 1 among zeros
pub spike_blocks : of_samples usual (0 ∷ 0 ∷ 0 ∷ 0 ∷ 1 ∷ 0 ∷ 0 ∷ 0 ∷ []) ≡ spike_block ∷ []
spike_blocks = refl

-- second extension and k = 0 tie at 20 bits
pub spike_lengths : lengths usual spike_block ≡ 67 ∷ 20 ∷ 20 ∷ 25 ∷ 32 ∷ 39 ∷ 46 ∷ 53 ∷ []
spike_lengths = refl

pub spike_choice : shortest_spelling usual spike_block ≡ record { reference = Some 0; body = value_pairs (0 ∷ 0 ∷ 0 ∷ 0 ∷ 1 ∷ 1 ∷ 0 ∷ 0 ∷ []) }
spike_choice = refl

pub pair_numbers : pair_number 0 1 ∷ pair_number 2 2 ∷ pair_number 0 3 ∷ pair_number 2 0 ∷ [] ≡ 2 ∷ 12 ∷ 9 ∷ 3 ∷ []
pair_numbers = refl
