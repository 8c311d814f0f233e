-- Reading the code of samples with their count returns the samples.
use Rattle.std.proofs.Common.{◌≡◌, ℕ, ◌-◌, ◌%◌, ◌<◌, ◌≤◌, Bool, false, Some, None, List, [], ◌∷◌, ◌++◌, length, map, replicate, refl, sym, ap, ◌∙◌, arith}
use Rattle.std.specs.Prelude.{ℤ, pos, unwrap_or}
use Rattle.std.specs.List.{AllByRecursion, flat_map, last_or}
use Rattle.std.specs.Int.{div_ceil}
use Rattle.std.proofs.Math.Nat.{add-mul-mod_self_left, mul-le-mul_right}
use Rattle.std.proofs.lemmas.List.{length-append, append_assoc, append-nil, take_at}
use Rattle.std.proofs.lemmas.Bool.{le-ltb}
use Rattle.aec_params.specs.declared.settings.Settings.{Settings}
use Rattle.aec_params.specs.Params.{IsAllowed, IsHeld, interval_len}
use Rattle.aec_params.specs.Cutting.{up_to_multiple}
use Rattle.aec_params.specs.Blocks.{intervals_of, filled_samples, blocks_of, all_blocks_of}
use Rattle.aec_params.specs.Intervals.{unpadded_bits}
use Rattle.aec_params.specs.Streams.{stream_of}
use Rattle.aec_params.specs.Reading.{IsBlockReading, FillBlocks, IsReading}
use Rattle.aec_interval.specs.Laws.{ReadsEach}
use Rattle.aec_block.proofs.ListMappingLemmas.{last_or-append}
use Rattle.aec_interval.proofs.ChunkLemmas.{filled_samples-whole}
use Rattle.aec_interval.proofs.CuttingLemmas.{IsPieceBefore, by_pieces, div_ceil-zero}
use Rattle.aec_params.proofs.SettingLaws.{block_size-positive}
use Rattle.aec_interval.proofs.BlockLemmas.{all-filled_samples, length-filled_samples, length-blocks_of, blocks-few}
use Rattle.aec_interval.proofs.StreamLemmas.{padded_code, no_padding, walk_of, stream_of-codes, ReadsEach-unpadded_bits, interval_len-positive, length-full_blocks, div_ceil-interval, all_blocks_of-nil, all_blocks_of-one, all_blocks_of-cons}

-- ---- how many blocks there are

pub length-all_blocks_of : (s : Settings) → IsAllowed s → (xs : List ℤ) → length (all_blocks_of s xs) ≡ div_ceil (length xs) s.block_size
length-all_blocks_of s a = by_pieces Counted (interval_len s) (interval_len-positive s a)
    (rw (all_blocks_of-nil, div_ceil-zero s.block_size (block_size-positive s a))) step
  where
    Counted : List ℤ → Type 0
    Counted xs = length (all_blocks_of s xs) ≡ div_ceil (length xs) s.block_size

    step : (front rest : List ℤ) → IsPieceBefore (interval_len s) front rest → Counted rest → Counted (front ++ rest)
    step front [] piece ih = rw append-nil (rw (all_blocks_of-one s front piece.some piece.fits, length-blocks_of))
    step front (x ∷ rest) piece ih =
        rw (
          all_blocks_of-cons,
          length-append,
          length-full_blocks s front a (piece.full (omega arith)),
          ih,
          div_ceil-interval s front (x ∷ rest) a (piece.full (omega arith)),
        )

-- ---- the filler

-- a full interval before other samples gets no filler
filled_samples-append : (s : Settings) (front : List ℤ) (x : ℤ) (rest : List ℤ) → length front ≡ interval_len s
    → filled_samples s (front ++ (x ∷ rest)) ≡ front ++ filled_samples s (x ∷ rest)
filled_samples-append s front x rest full = rw (append_assoc, missing, last_or-append)
  where
    missing : up_to_multiple s.block_size (length (front ++ (x ∷ rest))) ≡ up_to_multiple s.block_size (length (x ∷ rest))
    missing = ap (λ m. (s.block_size - m) % s.block_size) (ap (λ m. m % s.block_size) (length-append front (x ∷ rest) ∙ omega arith)
        ∙ add-mul-mod_self_left (length (x ∷ rest)) s.block_size s.interval)

filled_samples-nil : (s : Settings) → IsAllowed s → filled_samples s [] ≡ []
filled_samples-nil s a = filled_samples-whole s [] (block_size-positive s a) 0 (omega arith)

blocks_of-filled : (s : Settings) (x : ℤ) (v : List ℤ) → IsAllowed s → blocks_of s (filled_samples s (x ∷ v)) ≡ blocks_of s (x ∷ v)
blocks_of-filled s x v a =
    cc (filled_samples-whole s (filled_samples s (x ∷ v)) (block_size-positive s a) (div_ceil (length (x ∷ v)) s.block_size)
    (length-filled_samples s (x ∷ v) (block_size-positive s a)))

-- samples of one interval still fit it with their filler
filled-fits : (s : Settings) (v : List ℤ) → IsAllowed s → length v ≤ interval_len s → length (filled_samples s v) ≤ interval_len s
filled-fits s v a few =
    let n = length-blocks_of s v a in
    let most = mul-le-mul_right s.block_size (blocks-few s v a few) in
    grind (arith, length-filled_samples)

-- samples have the same blocks with their filler
pub all_blocks_of-filled : (s : Settings) → IsAllowed s → (xs : List ℤ) → all_blocks_of s (filled_samples s xs) ≡ all_blocks_of s xs
all_blocks_of-filled s a = by_pieces Same (interval_len s) (interval_len-positive s a) (rw filled_samples-nil) step
  where
    Same : List ℤ → Type 0
    Same xs = all_blocks_of s (filled_samples s xs) ≡ all_blocks_of s xs

    last : (v : List ℤ) → 0 < length v → length v ≤ interval_len s → Same v
    last [] some few = absurd (omega arith)
    last (x ∷ v) some few =
        all_blocks_of-one s (filled_samples s (x ∷ v)) (omega arith) (filled-fits s (x ∷ v) a few) ∙ blocks_of-filled s x v a
        ∙ sym (all_blocks_of-one s (x ∷ v) some few)

    step : (front rest : List ℤ) → IsPieceBefore (interval_len s) front rest → Same rest → Same (front ++ rest)
    step front [] piece ih = rw append-nil (last front piece.some piece.fits)
    step front (x ∷ rest) piece ih =
        rw (
          filled_samples-append s front x rest (piece.full (omega arith)),
          all_blocks_of-cons s front (filled_samples s (x ∷ rest))
              (record { some = piece.some; fits = piece.fits; full = λ _. piece.full (omega arith) }),
          ih,
          all_blocks_of-cons,
        )

all_filled : (s : Settings) (xs : List ℤ) → IsAllowed s → AllByRecursion (IsHeld s) xs → AllByRecursion (IsHeld s) (filled_samples s xs)
all_filled s [] a held = rw filled_samples-nil tt
all_filled s (x ∷ xs) a held = all-filled_samples s x xs held

-- ---- the round trip

pub FillBlocks-all_blocks_of : (s : Settings) (xs : List ℤ) → IsAllowed s → AllByRecursion (IsHeld s) xs
    → FillBlocks s (filled_samples s xs) (all_blocks_of s xs)
FillBlocks-all_blocks_of s xs a held = record {
  held = all_filled s xs a held;
  whole = rw (length-filled_samples s xs (block_size-positive s a), length-all_blocks_of);
  mapped = all_blocks_of-filled s a xs;
}

-- codes that are read as the blocks of each interval, one after the other, each padded by its own
-- length if the settings pad, are read as the blocks of all samples
IsBlockReading-codes : (s : Settings) (limit : ℕ) (xs : List ℤ) (codes : List (List Bool)) (rest : List Bool) → IsAllowed s
    → ReadsEach s codes (intervals_of s xs) → IsBlockReading s (Some (length xs)) limit (flat_map (padded_code s) codes ++ rest) 0 0 (all_blocks_of s xs)
IsBlockReading-codes s limit xs codes rest a each =
    let bits = flat_map (padded_code s) codes ++ rest in
    let walk = walk_of s (length xs) limit rest a xs codes 0 0 0 [] bits each (λ _. refl) (omega arith) refl refl (omega arith) in
    record {
      sets = walk.sets;
      end_block = walk.end_block;
      end_bit = walk.end_bit;
      leads = walk.leads;
      done = le-ltb walk.end_block (div_ceil (length xs) s.block_size) walk.enough;
      kept = sym walk.blocks;
    }

IsReading-codes : (s : Settings) (limit : ℕ) (xs : List ℤ) (codes : List (List Bool)) (rest : List Bool) → IsAllowed s → AllByRecursion (IsHeld s) xs
    → ReadsEach s codes (intervals_of s xs) → IsReading s (Some (length xs)) limit (flat_map (padded_code s) codes ++ rest) xs
IsReading-codes s limit xs codes rest a held each = record {
  blocks = all_blocks_of s xs;
  read = IsBlockReading-codes s limit xs codes rest a each;
  all_samples = filled_samples s xs;
  filled = FillBlocks-all_blocks_of s xs a held;
  counted = sym (take_at xs (replicate (up_to_multiple s.block_size (length xs)) (unwrap_or (last_or None xs) (pos 0))) (length xs) refl);
}

-- the code of samples is read as the samples
pub IsReading-stream_of : (s : Settings) (limit : ℕ) (xs : List ℤ) (rest : List Bool) → IsAllowed s → AllByRecursion (IsHeld s) xs
    → IsReading s (Some (length xs)) limit (stream_of s xs ++ rest) xs
IsReading-stream_of s limit xs rest a held =
    rw stream_of-codes (IsReading-codes s limit xs (map (unpadded_bits s) (intervals_of s xs)) rest a held (ReadsEach-unpadded_bits s a xs held))

-- without padding, any codes for the blocks of each interval are read as the samples
pub each_code_is_read : (s : Settings) (limit : ℕ) (xs : List ℤ) (codes : List (List Bool)) (rest : List Bool) → IsAllowed s → s.pad ≡ false
    → AllByRecursion (IsHeld s) xs → ReadsEach s codes (intervals_of s xs)
    → IsReading s (Some (length xs)) limit (flat_map (λ code. code) codes ++ rest) xs
each_code_is_read s limit xs codes rest a t held each = rw as_they_stand at (IsReading-codes s limit xs codes rest a held each)
  where
    as_they_stand : (codes : List (List Bool)) → flat_map (padded_code s) codes ≡ flat_map (λ code. code) codes
    as_they_stand [] = refl
    as_they_stand (code ∷ codes) = rw (no_padding, as_they_stand codes)
