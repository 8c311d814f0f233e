-- Bits that are read with a count are read with a smaller count too: as a front of the samples.
use Rattle.std.proofs.Common.{◌≡◌, ℕ, zero, suc, ◌+◌, ◌-◌, ◌*◌, ◌%◌, ◌<◌, ◌≤◌, Bool, Some, ℤ, List, [], ◌∷◌, ◌++◌, length, take, drop, refl, sym, ap, ◌∙◌, arith, ⊎_elim}
use Rattle.std.specs.Int.{div_ceil}
use Rattle.std.proofs.Math.Nat.{mod-lt, sub-zero, suc-sub-suc, mul-le-mul_right}
use Rattle.std.proofs.lemmas.Bool.{cases_lt, le-ltb, lt-ltb, ltb-false}
use Rattle.std.proofs.lemmas.List.{length-take, length-take-le, length-drop, take_all, take-take, take-append-le, take-append-drop}
use Rattle.aec_params.specs.declared.settings.Settings.{Settings}
use Rattle.aec_params.specs.Params.{IsAllowed}
use Rattle.aec_params.specs.Blocks.{Block, all_blocks_of}
use Rattle.aec_params.specs.CodedDataSets.{CodedDataSet}
use Rattle.aec_params.specs.Places.{block_count, cds_blocks}
use Rattle.aec_params.specs.Reading.{next_block, next_begin, LeadsTo, stream_blocks, IsBlockReading, FillBlocks, IsReading}
use Rattle.aec_params.proofs.SettingLaws.{block_size-positive, interval-positive}
use Rattle.aec_params.proofs.SampleLaws.{held-take}
use Rattle.aec_params.proofs.StreamLaws.{length-cds_blocks}
use Rattle.aec_interval.specs.NextBlock.{next_block_of}
use Rattle.aec_interval.proofs.CuttingLemmas.{div_ceil-bounds, div_ceil-times}
use Rattle.aec_interval.proofs.NextBlockLemmas.{all_blocks_of-push}
use Rattle.aec_interval.proofs.RoundTripLemmas.{length-all_blocks_of}
use Rattle.aec_interval.proofs.ReachedLemmas.{length-stream_blocks}

-- ---- samples that fill blocks, cut behind any block

-- samples of k blocks have k blocks
number_of_blocks : (s : Settings) (k : ℕ) (xs : List ℤ) → IsAllowed s → length xs ≡ k * s.block_size → length (all_blocks_of s xs) ≡ k
number_of_blocks s k xs a len = rw (length-all_blocks_of, len, div_ceil-times k s.block_size (block_size-positive s a))

-- the blocks of the samples of the first k blocks are the first k blocks
blocks-front : (s : Settings) (k m : ℕ) (xs : List ℤ) → IsAllowed s → length xs ≡ (k + m) * s.block_size
    → all_blocks_of s (take (k * s.block_size) xs) ≡ take k (all_blocks_of s xs)
blocks-front s k zero xs a len =
    let same : k + 0 ≡ k = omega arith in
    let whole : length xs ≡ k * s.block_size = rw (len, same) in
    rw (take_all (k * s.block_size) xs (omega arith), take_all k (all_blocks_of s xs) (omega (arith, number_of_blocks s k xs a whole)))
blocks-front s k (suc m) xs a len =
    rw (
      fewer,
      blocks-front s k m front a front-len,
      pushed,
      take-append-le k (all_blocks_of s front) (next_block_of s front back ∷ []) (omega (arith, number_of_blocks s (k + m) front a front-len)),
    )
  where
    n : ℕ
    n = (k + m) * s.block_size

    front : List ℤ
    front = take n xs

    back : List ℤ
    back = drop n xs

    front-len : length front ≡ n
    front-len = grind (arith, length-take)

    back-len : length back ≡ s.block_size
    back-len = grind (arith, length-drop)

    pushed : all_blocks_of s xs ≡ all_blocks_of s front ++ next_block_of s front back ∷ []
    pushed = cc (take-append-drop n xs, all_blocks_of-push s front back (k + m) (block_size-positive s a) (interval-positive s a) front-len back-len)

    fewer : take (k * s.block_size) xs ≡ take (k * s.block_size) front
    fewer = sym (take-take (k * s.block_size) n xs (mul-le-mul_right s.block_size (omega arith)))

pub FillBlocks-fewer : (s : Settings) (k : ℕ) (xs : List ℤ) (blocks : List Block) → IsAllowed s → k ≤ length blocks → FillBlocks s xs blocks
    → FillBlocks s (take (k * s.block_size) xs) (take k blocks)
FillBlocks-fewer s k xs blocks a within filled = record {
  held = held-take s (k * s.block_size) xs filled.held;
  whole = rw (length-take-le (k * s.block_size) xs enough, length-take-le);
  mapped = rw (blocks-front s k (length blocks - k) xs a (filled.whole ∙ ap (λ n. n * s.block_size) split), filled.mapped);
}
  where
    split : length blocks ≡ k + (length blocks - k)
    split = omega arith

    enough : k * s.block_size ≤ length xs
    enough = omega (arith, mul-le-mul_right s.block_size within)

-- ---- the way to fewer blocks

-- what comes after the first elements matters only up to place m
take-same : {X : Type 0} (m : ℕ) (xs ys zs : List X) → take (m - length xs) ys ≡ take (m - length xs) zs → take m (xs ++ ys) ≡ take m (xs ++ zs)
take-same m [] ys zs same = rw sub-zero at same
take-same zero (x ∷ xs) ys zs same = refl
take-same (suc m) (x ∷ xs) ys zs same = rw (take-same m xs ys zs (rw suc-sub-suc at same))

module _ (s : Settings) (a : IsAllowed s) (limit : ℕ) (bits : List Bool) (n k : ℕ) where
  abbrev needed : ℕ
  needed = div_ceil k s.block_size

  abbrev FewerRead : ℕ → ℕ → List CodedDataSet → Type 0
  FewerRead i b sets = IsBlockReading s (Some k) limit bits i b (take (needed - i) (stream_blocks s i sets))

  no_more : (i b : ℕ) (sets : List CodedDataSet) → needed ≤ i → FewerRead i b sets
  no_more i b sets enough =
      let none : needed - i ≡ 0 = omega arith in
      record {
        sets = [];
        end_block = i;
        end_bit = b;
        leads = (refl, refl);
        done = le-ltb i needed enough;
        kept = rw none;
      }

  one_more_set : (i b : ℕ) (c : CodedDataSet) (sets : List CodedDataSet) (j e : ℕ) → i < needed → LeadsTo s (Some n) limit bits i b (c ∷ sets) j e
      → FewerRead (next_block s i c) (next_begin s bits i b c) sets → FewerRead i b (c ∷ sets)
  one_more_set i b c sets j e below leads h =
      let next = next_block s i c in
      let here : length (cds_blocks s (i % s.interval) c) ≡ block_count s (i % s.interval) c =
      length-cds_blocks s (i % s.interval) c (mod-lt i (interval-positive s a)) in
      let behind : needed - i - length (cds_blocks s (i % s.interval) c) ≡ needed - next = omega arith in
      record {
        sets = c ∷ h.sets;
        end_block = h.end_block;
        end_bit = h.end_bit;
        leads = (lt-ltb i needed below, leads.1, leads.2, refl, h.leads);
        done = h.done;
        kept = take-same (needed - i) (cds_blocks s (i % s.interval) c) (stream_blocks s next sets) (stream_blocks s next h.sets) (rw behind h.kept);
      }

  -- the coded data sets that lead to n samples lead to fewer samples first
  pub fewer_blocks : (i b : ℕ) (sets : List CodedDataSet) (j e : ℕ) → LeadsTo s (Some n) limit bits i b sets j e → needed ≤ j → FewerRead i b sets
  fewer_blocks i b [] j e leads enough = no_more i b [] (omega arith)
  fewer_blocks i b (c ∷ sets) j e leads enough =
      let later = fewer_blocks (next_block s i c) (next_begin s bits i b c) sets j e leads.4 enough in
      ⊎_elim (λ below. one_more_set i b c sets j e below leads later) (no_more i b (c ∷ sets)) (cases_lt i needed)

pub div_ceil-le : (k n j : ℕ) → 0 < j → k ≤ n → div_ceil k j ≤ div_ceil n j
div_ceil-le k n j positive within = grind arith

pub IsReading-fewer : (s : Settings) (limit n k : ℕ) (bits : List Bool) (samples : List ℤ) → IsAllowed s → k ≤ n
    → IsReading s (Some n) limit bits samples → IsReading s (Some k) limit bits (take k samples)
IsReading-fewer s limit n k bits samples a within h = record {
  blocks = take needed_blocks h.blocks;
  read = rw kept at (fewer_blocks s a limit bits n k 0 0 h.read.sets h.read.end_block h.read.end_bit h.read.leads (omega (arith, fewer, reached)));
  all_samples = take (needed_blocks * s.block_size) h.all_samples;
  filled = FillBlocks-fewer s needed_blocks h.all_samples h.blocks a (omega (arith, fewer, number)) h.filled;
  counted =
      rw (
        h.counted,
        take-take,
        take-take k (needed_blocks * s.block_size) h.all_samples (div_ceil-bounds k s.block_size (block_size-positive s a)).0,
      );
}
  where
    needed_blocks : ℕ
    needed_blocks = div_ceil k s.block_size

    all_needed : ℕ
    all_needed = div_ceil n s.block_size

    stream : List Block
    stream = stream_blocks s 0 h.read.sets

    fewer : needed_blocks ≤ all_needed
    fewer = div_ceil-le k n s.block_size (block_size-positive s a) within

    reached : all_needed ≤ h.read.end_block
    reached = ltb-false h.read.end_block all_needed h.read.done

    stream-len : 0 + length stream ≡ h.read.end_block
    stream-len = length-stream_blocks s (Some n) limit bits 0 0 h.read.sets h.read.end_block h.read.end_bit (interval-positive s a) h.read.leads

    are : h.blocks ≡ take all_needed stream
    are = rw (h.read.kept, sub-zero)

    number : length h.blocks ≡ all_needed
    number = rw are (length-take-le all_needed stream (omega (arith, reached, stream-len)))

    kept : take (needed_blocks - 0) stream ≡ take needed_blocks h.blocks
    kept = rw (sub-zero, are, take-take needed_blocks all_needed stream fewer)
