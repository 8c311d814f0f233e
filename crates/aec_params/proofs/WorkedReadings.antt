-- Small streams read back, checked against the definition of a reading.
use Rattle.std.proofs.Common.{rules, lit<, ℕ, ℤ, pos, Some, None, List, [], ◌∷◌, map, replicate, refl}
use Rattle.aec_params.specs.Codewords.{bits_of_bytes}
use Rattle.aec_params.specs.CodedDataSets.{CodedDataSet, split_values, zero_blocks}
use Rattle.aec_params.specs.Blocks.{Block}
use Rattle.aec_params.specs.Places.{zero_block}
use Rattle.aec_params.specs.Reading.{IsReading}
use Rattle.aec_params.proofs.WorkedSettings.{usual, padded}
use Rattle.aec_params.proofs.ReadingParts.{is_reading}

-- ---- a ramp

abbrev ramp_bytes : List ℕ
ramp_bytes = 0x20 ∷ 0x09 ∷ 0x24 ∷ 0x92 ∷ []

abbrev ramp : List ℤ
ramp = map pos (0 ∷ 1 ∷ 2 ∷ 3 ∷ 4 ∷ 5 ∷ 6 ∷ 7 ∷ [])

abbrev ramp_set : CodedDataSet
ramp_set = record { reference = Some 0; body = split_values 0 (1 ∷ 2 ∷ 2 ∷ 2 ∷ 2 ∷ 2 ∷ 2 ∷ []) }

abbrev ramp_block : Block
ramp_block = record { reference = Some 0; values = 0 ∷ 1 ∷ 2 ∷ 2 ∷ 2 ∷ 2 ∷ 2 ∷ 2 ∷ [] }

pub ramp_with_count : IsReading usual (Some 8) 4096 (bits_of_bytes ramp_bytes) ramp
ramp_with_count = is_reading (ramp_block ∷ []) (ramp_set ∷ []) 1 31 ramp
    (refl, refl, record { shape = record { reference = lit< tt; body = (lit< tt, refl) }; small = refl; within = refl }, refl, (refl, refl))
    refl refl (search rules) refl refl refl

pub ramp_without_count : IsReading usual None 4096 (bits_of_bytes ramp_bytes) ramp
ramp_without_count = is_reading (ramp_block ∷ []) (ramp_set ∷ []) 1 31 ramp
    (refl, refl, record { shape = record { reference = lit< tt; body = (lit< tt, refl) }; small = refl; within = refl }, refl, (refl, refl))
    refl refl (search rules) refl refl refl

-- ---- five sevens: five samples with a count of five, the whole block without a count

abbrev sevens : ℕ → List ℤ
sevens n = map pos (replicate n 7)

abbrev sevens_set : CodedDataSet
sevens_set = record { reference = Some 7; body = zero_blocks 0 }

pub five_sevens : IsReading usual (Some 5) 4096 (bits_of_bytes (0x00 ∷ 0x78 ∷ [])) (sevens 5)
five_sevens = is_reading (zero_block usual (Some 7) ∷ []) (sevens_set ∷ []) 1 13 (sevens 8)
    (refl, refl, record { shape = record { reference = lit< tt; body = tt }; small = refl; within = refl }, refl, (refl, refl))
    refl refl (search rules) refl refl refl

pub eight_sevens : IsReading usual None 4096 (bits_of_bytes (0x00 ∷ 0x78 ∷ [])) (sevens 8)
eight_sevens = is_reading (zero_block usual (Some 7) ∷ []) (sevens_set ∷ []) 1 13 (sevens 8)
    (refl, refl, record { shape = record { reference = lit< tt; body = tt }; small = refl; within = refl }, refl, (refl, refl))
    refl refl (search rules) refl refl refl

-- ---- zeros in two intervals, and with padding

abbrev zeros : ℕ → List ℤ
zeros n = map pos (replicate n 0)

abbrev run_from_the_start : ℕ → CodedDataSet
run_from_the_start m = record { reference = Some 0; body = zero_blocks m }

pub seventeen_zeros : IsReading usual (Some 17) 4096 (bits_of_bytes (0x00 ∷ 0x04 ∷ 0x00 ∷ 0x20 ∷ [])) (zeros 17)
seventeen_zeros =
    is_reading (zero_block usual (Some 0) ∷ zero_block usual None ∷ zero_block usual (Some 0) ∷ [])
    (run_from_the_start 1 ∷ run_from_the_start 0 ∷ []) 3 27 (zeros 24) (
      refl,
      refl,
      record { shape = record { reference = lit< tt; body = tt }; small = refl; within = refl },
      refl,
      (refl, refl, record { shape = record { reference = lit< tt; body = tt }; small = refl; within = refl }, refl, (refl, refl)),
    )
    refl refl (search rules) refl refl refl

-- the second interval begins after the padding; the zero bits that remain end the stream
pub padded_zeros : IsReading padded None 4096 (bits_of_bytes (0x00 ∷ 0x04 ∷ 0x00 ∷ 0x08 ∷ [])) (zeros 24)
padded_zeros =
    is_reading (zero_block usual (Some 0) ∷ zero_block usual None ∷ zero_block usual (Some 0) ∷ [])
    (run_from_the_start 1 ∷ run_from_the_start 0 ∷ []) 3 29 (zeros 24) (
      refl,
      refl,
      record { shape = record { reference = lit< tt; body = tt }; small = refl; within = refl },
      refl,
      (refl, refl, record { shape = record { reference = lit< tt; body = tt }; small = refl; within = refl }, refl, (refl, refl)),
    )
    refl refl (search rules) refl refl refl
