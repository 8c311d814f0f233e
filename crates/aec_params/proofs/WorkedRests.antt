-- The remainder code read back, with a count and without, an uncompressed block, and three faults.
use Rattle.std.proofs.Common.{rules, lit<, ℕ, zero, suc, ℤ, pos, Some, None, List, [], ◌∷◌, map, replicate, refl}
use Rattle.aec_params.specs.declared.settings.Settings.{Settings}
use Rattle.aec_params.specs.declared.fault.Fault.TheVariants.{ValueTooLarge, RunTooLong, TooManySamples}
use Rattle.aec_params.specs.Codewords.{bits_of_bytes}
use Rattle.aec_params.specs.CodedDataSets.{CodedDataSet, uncompressed_values, split_values, zero_blocks}
use Rattle.aec_params.specs.Blocks.{Block}
use Rattle.aec_params.specs.Places.{zero_block}
use Rattle.std.specs.List.{AllByRecursion}
use Rattle.aec_params.specs.Params.{IsHeld}
use Rattle.aec_params.specs.Reading.{IsReading}
use Rattle.aec_params.specs.Faults.{IsFault, not_read, too_large, too_long, too_many}
use Rattle.aec_params.proofs.WorkedSettings.{usual, with_interval, unprocessed}
use Rattle.aec_params.proofs.ReadingParts.{is_reading}

-- ---- the remainder code: all blocks that the segment has left, or those that a count needs

abbrev zeros : ℕ → List ℤ
zeros n = map pos (replicate n 0)

held_zeros : (n : ℕ) → AllByRecursion (IsHeld (with_interval 64)) (zeros n)
held_zeros zero = tt
held_zeros (suc n) = (refl, held_zeros n)

abbrev zero_run_blocks : ℕ → List Block
zero_run_blocks later = zero_block usual (Some 0) ∷ replicate later (zero_block usual None)

abbrev remainder_set : CodedDataSet
remainder_set = record { reference = Some 0; body = zero_blocks 4 }

pub forty_zeros : IsReading (with_interval 64) (Some 40) 4096 (bits_of_bytes (0x00 ∷ 0x00 ∷ 0x80 ∷ [])) (zeros 40)
forty_zeros = is_reading (zero_run_blocks 4) (remainder_set ∷ []) 64 17 (zeros 40)
    (refl, refl, record { shape = record { reference = lit< tt; body = tt }; small = refl; within = refl }, refl, (refl, refl))
    refl refl (search rules) refl refl refl

pub whole_segment_of_zeros : IsReading (with_interval 64) None 4096 (bits_of_bytes (0x00 ∷ 0x00 ∷ 0x80 ∷ [])) (zeros 512)
whole_segment_of_zeros = is_reading (zero_run_blocks 63) (remainder_set ∷ []) 64 17 (zeros 512)
    (refl, refl, record { shape = record { reference = lit< tt; body = tt }; small = refl; within = refl }, refl, (refl, refl))
    refl refl (held_zeros 512) refl refl refl

-- ---- an uncompressed block without preprocessing

abbrev eight_values : List ℕ
eight_values = 0 ∷ 1 ∷ 2 ∷ 3 ∷ 4 ∷ 5 ∷ 6 ∷ 7 ∷ []

pub uncompressed_block :
    IsReading unprocessed None 4096 (bits_of_bytes (0xE0 ∷ 0x00 ∷ 0x20 ∷ 0x40 ∷ 0x60 ∷ 0x80 ∷ 0xA0 ∷ 0xC0 ∷ 0xE0 ∷ [])) (map pos eight_values)
uncompressed_block =
    is_reading ((record { reference = None; values = eight_values }) ∷ [])
    ((record { reference = None; body = uncompressed_values eight_values }) ∷ []) 1 67 (map pos eight_values)
    (refl, refl, record { shape = record { reference = tt; body = (refl, search rules) }; small = refl; within = refl }, refl, (refl, refl))
    refl refl (search rules) refl refl refl

-- ---- faults

abbrev one_bit : Settings
one_bit = record unprocessed { bits = 1 }

-- a value of 2 with n 1
pub two_in_one_bit : IsFault one_bit (Some 8) 4096 (bits_of_bytes (0x27 ∷ 0xF8 ∷ [])) 0 0 (ValueTooLarge 0)
two_in_one_bit = record {
  sets = [];
  block = 0;
  bit = 0;
  leads = (refl, refl);
  wanted = refl;
  wrong = not_read _ (too_large (record { reference = None; body = split_values 0 (2 ∷ replicate 7 0) })
      (record { shape = record { reference = tt; body = (lit< tt, refl) }; stands = refl }) refl);
}

-- a run of three blocks in an interval of two
pub three_blocks_in_two : IsFault usual None 4096 (bits_of_bytes (0x00 ∷ 0x02 ∷ [])) 0 0 (RunTooLong 0)
three_blocks_in_two = record {
  sets = [];
  block = 0;
  bit = 0;
  leads = (refl, refl);
  wanted = refl;
  wrong = too_long (record { reference = Some 0; body = zero_blocks 2 })
      (record { shape = record { reference = lit< tt; body = tt }; stands = refl }) refl refl;
}

-- 512 samples with a limit of 100
pub past_the_limit : IsFault (with_interval 64) None 100 (bits_of_bytes (0x00 ∷ 0x00 ∷ 0x80 ∷ [])) 0 0 (TooManySamples 100)
past_the_limit = record {
  sets = [];
  block = 0;
  bit = 0;
  leads = (refl, refl);
  wanted = refl;
  wrong = too_many remainder_set
      (record { shape = record { reference = lit< tt; body = tt }; stands = refl })
      (record { shape = record { reference = lit< tt; body = tt }; small = refl; within = refl }) refl;
}
