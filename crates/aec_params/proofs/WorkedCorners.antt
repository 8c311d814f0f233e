-- Corner cases of reading: no samples needed, skipped padding bits, choices that this coder would
-- not make, and no bits at all.
use Rattle.std.proofs.Common.{rules, lit<, ℕ, ℤ, pos, ◌≡◌, Bool, Some, None, List, [], ◌∷◌, ◌++◌, map, replicate, refl, ◌∙◌, append_assoc}
use Rattle.aec_params.specs.declared.fault.Fault.TheVariants.{Truncated}
use Rattle.aec_params.specs.Codewords.{bits_of_bytes}
use Rattle.aec_params.specs.CodedDataSets.{CodedDataSet, uncompressed_values, value_pairs, split_values, zero_blocks, Body, identifier}
use Rattle.aec_params.specs.Places.{zero_block}
use Rattle.aec_params.specs.Reading.{IsReading}
use Rattle.aec_params.specs.Faults.{IsFault, not_read, cut_short}
use Rattle.aec_params.proofs.WorkedSettings.{usual, padded}
use Rattle.aec_params.proofs.ReadingParts.{is_reading}

-- with a count of 0 no bit is read
pub nothing_needed : IsReading usual (Some 0) 4096 (bits_of_bytes (0xFF ∷ [])) []
nothing_needed = is_reading [] [] 0 0 [] (refl, refl) refl refl tt refl refl refl

-- ---- with padding, the bits after a full interval are skipped, whatever they are

abbrev zeros : ℕ → List ℤ
zeros n = map pos (replicate n 0)

abbrev run_from_the_start : ℕ → CodedDataSet
run_from_the_start m = record { reference = Some 0; body = zero_blocks m }

pub ones_skipped : IsReading padded None 4096 (bits_of_bytes (0x00 ∷ 0x07 ∷ [])) (zeros 16)
ones_skipped = is_reading (zero_block usual (Some 0) ∷ zero_block usual None ∷ []) (run_from_the_start 1 ∷ []) 2 16 (zeros 16)
    (refl, refl, record { shape = record { reference = lit< tt; body = tt }; small = refl; within = refl }, refl, (refl, refl))
    refl refl (search rules) refl refl refl

pub ones_skipped_between : IsReading padded None 4096 (bits_of_bytes (0x00 ∷ 0x07 ∷ 0x00 ∷ 0x08 ∷ [])) (zeros 24)
ones_skipped_between =
    is_reading (zero_block usual (Some 0) ∷ zero_block usual None ∷ zero_block usual (Some 0) ∷ [])
    (run_from_the_start 1 ∷ run_from_the_start 0 ∷ []) 3 29 (zeros 24) (
      refl,
      refl,
      record { shape = record { reference = lit< tt; body = tt }; small = refl; within = refl },
      refl,
      (refl, refl, record { shape = record { reference = lit< tt; body = tt }; small = refl; within = refl }, refl, (refl, refl)),
    )
    refl refl (search rules) refl refl refl

-- ---- choices of other coders

-- the second extension for zeros with the first pair (1, 0): the reader ignores the 1, which is in
-- the reference place
pub first_member_ignored : IsReading usual (Some 8) 4096 (bits_of_bytes (0x10 ∷ 0x07 ∷ 0x80 ∷ [])) (zeros 8)
first_member_ignored = is_reading (zero_block usual (Some 0) ∷ []) ((record { reference = Some 0; body = value_pairs (1 ∷ replicate 7 0) }) ∷ []) 1 17 (zeros 8)
    (refl, refl, record { shape = record { reference = lit< tt; body = refl }; small = refl; within = refl }, refl, (refl, refl))
    refl refl (search rules) refl refl refl

-- a ramp split with k = 1, although k = 0 is as short
abbrev ramp : List ℤ
ramp = map pos (0 ∷ 1 ∷ 2 ∷ 3 ∷ 4 ∷ 5 ∷ 6 ∷ 7 ∷ [])

pub ramp_by_the_greater_split : IsReading usual (Some 8) 4096 (bits_of_bytes (0x40 ∷ 0x15 ∷ 0x55 ∷ 0x80 ∷ [])) ramp
ramp_by_the_greater_split =
    is_reading ((record { reference = Some 0; values = 0 ∷ 1 ∷ 2 ∷ 2 ∷ 2 ∷ 2 ∷ 2 ∷ 2 ∷ [] }) ∷ [])
    ((record { reference = Some 0; body = split_values 1 (1 ∷ 2 ∷ 2 ∷ 2 ∷ 2 ∷ 2 ∷ 2 ∷ []) }) ∷ []) 1 31 ramp
    (refl, refl, record { shape = record { reference = lit< tt; body = (lit< tt, refl) }; small = refl; within = refl }, refl, (refl, refl))
    refl refl (search rules) refl refl refl

-- ---- no bits, although a block is needed

identified : (body : Body) → (rest : List Bool) → ([] ≡ identifier usual body ++ rest) → ⊥
identified (uncompressed_values values) rest e = absurd (cc)
identified (value_pairs members) rest e = absurd (cc)
identified (split_values k values) rest e = absurd (cc)
identified (zero_blocks m) rest e = absurd (cc)

pub no_bits : IsFault usual (Some 8) 4096 [] 0 0 (Truncated 0)
no_bits = record {
  sets = [];
  block = 0;
  bit = 0;
  leads = (refl, refl);
  wanted = refl;
  wrong = not_read _ (cut_short (λ c has. identified c.body _ (has.stands ∙ append_assoc (identifier usual c.body) _ _)));
}
