-- What a coded data set that was read stands for: how many blocks, which ones, and which are kept.
use Rattle.std.proofs.Common.{◌≡◌, ℕ, ◌+◌, ◌-◌, ◌%◌, ◌<◌, ◌≤◌, min, Bool, true, unwrap_or, Option, Some, None, ℤ, List, [], ◌∷◌, length, replicate, refl, sym, ◌∙◌, arith, ⊎_elim}
use Rattle.std.proofs.lemmas.Bool.{cases_lt, ltb-true}
use Rattle.std.proofs.lemmas.List.{take_all, length-take, length-replicate}
use Rattle.std.specs.Int.{div_ceil}
use Rattle.aec_params.specs.declared.settings.Settings.{Settings}
use Rattle.aec_params.specs.Params.{IsAllowed}
use Rattle.aec_params.specs.Blocks.{Block}
use Rattle.aec_params.specs.CodedDataSets.{Body, uncompressed_values, value_pairs, split_values, zero_blocks, HasShape, has_small_values}
use Rattle.aec_params.specs.Places.{segment_left, told_blocks, run_len, body_blocks, is_reference_block, zero_block, blocks_in}
use Rattle.aec_params.specs.Reading.{is_wanted, kept_blocks}
use Rattle.aec_block.specs.ReadCds.{as_run_len, run_len_of, answer_of}
use Rattle.aec_interval.specs.NextBlock.{run_blocks}
use Rattle.aec_interval.specs.NextSet.{run_count, kept_count, IsNextCds, cds_front}
use Rattle.aec_interval.specs.Reached.{AreFilled}
use Rattle.aec_interval.proofs.NextSetLemmas.{single_next, run_front}

-- ---- how many blocks

run_count-as_run_len : (s : Settings) (p : ℕ) (told : Option ℕ) → run_count s p (as_run_len told) ≡ unwrap_or told (segment_left s p)
run_count-as_run_len s p None = refl
run_count-as_run_len s p (Some z) = refl

-- a run's length, as it is read, means the same number of blocks as the number of its code
pub run_count-run_len_of : (s : Settings) (p m : ℕ) → run_count s p (run_len_of m) ≡ run_len s p m
run_count-run_len_of s p m = run_count-as_run_len s p (told_blocks m)

-- ---- which blocks

pub next-answer_of : (s : Settings) (i : ℕ) (samples : List ℤ) (kept : ℕ) (reference : Option ℕ) (body : Body) → IsAllowed s → AreFilled s i samples
    → HasShape s (is_reference_block s (i % s.interval)) (record { reference = reference; body = body })
    → has_small_values s (record { reference = reference; body = body }) ≡ true
    → 1 ≤ kept → i % s.interval + kept ≤ s.interval → IsNextCds s i samples kept (answer_of reference body)
next-answer_of s i samples kept reference (uncompressed_values values) allowed filled shape small some within =
    single_next s i samples reference (uncompressed_values values) _ allowed filled shape small refl refl
next-answer_of s i samples kept reference (value_pairs members) allowed filled shape small some within =
    single_next s i samples reference (value_pairs members) _ allowed filled shape small refl refl
next-answer_of s i samples kept reference (split_values k values) allowed filled shape small some within =
    single_next s i samples reference (split_values k values) _ allowed filled shape small refl refl
next-answer_of s i samples kept reference (zero_blocks m) allowed filled shape small some within = (some, (within, shape.reference))

-- the number of blocks that are kept
pub length-kept_blocks : (s : Settings) (count : Option ℕ) (i : ℕ) (blocks : List Block)
    → length (kept_blocks s count i blocks) ≡ kept_count s count i (length blocks)
length-kept_blocks s None i blocks = refl
length-kept_blocks s (Some count) i blocks = omega (arith, length-take (div_ceil count s.block_size - i) blocks)

-- a single block that is wanted is kept
kept_one : (s : Settings) (count : Option ℕ) (bits : List Bool) (i b : ℕ) (block : Block) → is_wanted s count bits i b ≡ true
    → block ∷ [] ≡ kept_blocks s count i (block ∷ [])
kept_one s None bits i b block wanted = refl
kept_one s (Some count) bits i b block wanted =
    let below = ltb-true i (div_ceil count s.block_size) wanted in sym (take_all (div_ceil count s.block_size - i) (block ∷ []) (omega arith))

min_left : (a b : ℕ) → a ≤ b → min a b ≡ a
min_left a b h = omega arith

min_right : (a b : ℕ) → b ≤ a → min a b ≡ b
min_right a b h = omega arith

run_within : (s : Settings) (reference : Option ℕ) (z : ℕ) → 1 ≤ z → length (zero_block s reference ∷ replicate (z - 1) (zero_block s None)) ≤ z
run_within s reference z some = grind (arith, length-replicate)

kept_run : (s : Settings) (count : Option ℕ) (bits : List Bool) (i b : ℕ) (reference : Option ℕ) (z : ℕ) → 1 ≤ z → is_wanted s count bits i b ≡ true
    → run_blocks s reference (kept_count s count i z) ≡ kept_blocks s count i (zero_block s reference ∷ replicate (z - 1) (zero_block s None))
kept_run s None bits i b reference z some wanted =
    sym (run_front s reference z z some (omega arith))
    ∙ take_all z (zero_block s reference ∷ replicate (z - 1) (zero_block s None)) (run_within s reference z some)
kept_run s (Some count) bits i b reference z some wanted = ⊎_elim fewer all (cases_lt (div_ceil count s.block_size - i) z)
  where
    below : i < div_ceil count s.block_size
    below = ltb-true i (div_ceil count s.block_size) wanted

    fewer : div_ceil count s.block_size - i < z
        → run_blocks s reference (kept_count s (Some count) i z)
        ≡ kept_blocks s (Some count) i (zero_block s reference ∷ replicate (z - 1) (zero_block s None))
    fewer h =
        let k : kept_count s (Some count) i z ≡ div_ceil count s.block_size - i = min_right z (div_ceil count s.block_size - i) (omega arith) in
        rw (k, run_front s reference z (div_ceil count s.block_size - i) (omega (arith, below)) (omega arith))

    all : z ≤ div_ceil count s.block_size - i
        → run_blocks s reference (kept_count s (Some count) i z)
        ≡ kept_blocks s (Some count) i (zero_block s reference ∷ replicate (z - 1) (zero_block s None))
    all h =
        rw (
          min_left,
          ← (run_front s reference z z some (omega arith)),
          take_all z (zero_block s reference ∷ replicate (z - 1) (zero_block s None)) (run_within s reference z some),
          take_all (div_ceil count s.block_size - i)
              (zero_block s reference ∷ replicate (z - 1) (zero_block s None)) (omega (arith, run_within s reference z some, h)),
        )

pub front-answer_of : (s : Settings) (count : Option ℕ) (bits : List Bool) (i b : ℕ) (reference : Option ℕ) (body : Body)
    → 1 ≤ body_blocks s (i % s.interval) body
    → is_wanted s count bits i b ≡ true
    → cds_front s (kept_count s count i (body_blocks s (i % s.interval) body)) (answer_of reference body)
    ≡ kept_blocks s count i (blocks_in s (i % s.interval) reference body)
front-answer_of s count bits i b reference (uncompressed_values values) some wanted = kept_one s count bits i b _ wanted
front-answer_of s count bits i b reference (value_pairs members) some wanted = kept_one s count bits i b _ wanted
front-answer_of s count bits i b reference (split_values k values) some wanted = kept_one s count bits i b _ wanted
front-answer_of s count bits i b reference (zero_blocks m) some wanted = kept_run s count bits i b reference (run_len s (i % s.interval) m) some wanted
