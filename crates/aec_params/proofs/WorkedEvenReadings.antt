-- Blocks of 10 read back, and two faults, checked against the definitions of a reading and a fault.
use Rattle.std.proofs.Common.{rules, lit<, ℕ, ℤ, pos, Some, None, List, [], ◌∷◌, map, replicate, refl}
use Rattle.aec_params.specs.declared.fault.Fault.TheVariants.{RunTooLong, TooManySamples}
use Rattle.aec_params.specs.Codewords.{bits_of_bytes}
use Rattle.aec_params.specs.CodedDataSets.{CodedDataSet, split_values, zero_blocks}
use Rattle.aec_params.specs.Blocks.{Block}
use Rattle.aec_params.specs.Places.{zero_block}
use Rattle.aec_params.specs.Reading.{IsReading}
use Rattle.aec_params.specs.Faults.{IsFault, too_long, too_many}
use Rattle.aec_params.proofs.WorkedSettings.{tens}
use Rattle.aec_params.proofs.ReadingParts.{is_reading}

abbrev ramp : List ℤ
ramp = map pos (0 ∷ 1 ∷ 2 ∷ 3 ∷ 4 ∷ 5 ∷ 6 ∷ 7 ∷ 8 ∷ 9 ∷ [])

abbrev ramp_bytes : List ℕ
ramp_bytes = 0x20 ∷ 0x09 ∷ 0x24 ∷ 0x92 ∷ 0x48 ∷ []

abbrev ramp_block : Block
ramp_block = record { reference = Some 0; values = 0 ∷ 1 ∷ replicate 8 2 }

abbrev ramp_set : ℕ → CodedDataSet
ramp_set k = record { reference = Some 0; body = split_values k (1 ∷ replicate 8 2) }

pub ramp_with_count : IsReading (tens 1) (Some 10) 4096 (bits_of_bytes ramp_bytes) ramp
ramp_with_count = is_reading (ramp_block ∷ []) (ramp_set 0 ∷ []) 1 37 ramp
    (refl, refl, record { shape = record { reference = lit< tt; body = (lit< tt, refl) }; small = refl; within = refl }, refl, (refl, refl))
    refl refl (search rules) refl refl refl

pub ramp_without_count : IsReading (tens 1) None 4096 (bits_of_bytes ramp_bytes) ramp
ramp_without_count = is_reading (ramp_block ∷ []) (ramp_set 0 ∷ []) 1 37 ramp
    (refl, refl, record { shape = record { reference = lit< tt; body = (lit< tt, refl) }; small = refl; within = refl }, refl, (refl, refl))
    refl refl (search rules) refl refl refl

-- a choice of another coder: k = 1, although k = 0 is as short
pub ramp_by_the_greater_split : IsReading (tens 1) (Some 10) 4096 (bits_of_bytes (0x40 ∷ 0x15 ∷ 0x55 ∷ 0x58 ∷ 0x00 ∷ [])) ramp
ramp_by_the_greater_split = is_reading (ramp_block ∷ []) (ramp_set 1 ∷ []) 1 37 ramp
    (refl, refl, record { shape = record { reference = lit< tt; body = (lit< tt, refl) }; small = refl; within = refl }, refl, (refl, refl))
    refl refl (search rules) refl refl refl

abbrev sevens : ℕ → List ℤ
sevens n = map pos (replicate n 7)

abbrev sevens_set : CodedDataSet
sevens_set = record { reference = Some 7; body = zero_blocks 0 }

pub five_sevens : IsReading (tens 2) (Some 5) 4096 (bits_of_bytes (0x00 ∷ 0x78 ∷ [])) (sevens 5)
five_sevens = is_reading (zero_block (tens 2) (Some 7) ∷ []) (sevens_set ∷ []) 1 13 (sevens 10)
    (refl, refl, record { shape = record { reference = lit< tt; body = tt }; small = refl; within = refl }, refl, (refl, refl))
    refl refl (search rules) refl refl refl

-- without a count, the whole block is read
pub ten_sevens : IsReading (tens 2) None 4096 (bits_of_bytes (0x00 ∷ 0x78 ∷ [])) (sevens 10)
ten_sevens = is_reading (zero_block (tens 2) (Some 7) ∷ []) (sevens_set ∷ []) 1 13 (sevens 10)
    (refl, refl, record { shape = record { reference = lit< tt; body = tt }; small = refl; within = refl }, refl, (refl, refl))
    refl refl (search rules) refl refl refl

-- ---- faults

-- a run of three blocks in an interval of two
pub three_blocks_in_two : IsFault (tens 2) None 4096 (bits_of_bytes (0x00 ∷ 0x02 ∷ [])) 0 0 (RunTooLong 0)
three_blocks_in_two = record {
  sets = [];
  block = 0;
  bit = 0;
  leads = (refl, refl);
  wanted = refl;
  wrong = too_long (record { reference = Some 0; body = zero_blocks 2 })
      (record { shape = record { reference = lit< tt; body = tt }; stands = refl }) refl refl;
}

-- 640 samples with a limit of 639
pub past_the_limit : IsFault (tens 64) None 639 (bits_of_bytes (0x00 ∷ 0x00 ∷ 0x80 ∷ [])) 0 0 (TooManySamples 639)
past_the_limit = record {
  sets = [];
  block = 0;
  bit = 0;
  leads = (refl, refl);
  wanted = refl;
  wrong = too_many (record { reference = Some 0; body = zero_blocks 4 })
      (record { shape = record { reference = lit< tt; body = tt }; stands = refl })
      (record { shape = record { reference = lit< tt; body = tt }; small = refl; within = refl }) refl;
}
