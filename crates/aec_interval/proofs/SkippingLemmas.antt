-- Coded data sets that are skipped: that there are samples they stand for, and how many of these
-- are asked for.
use Rattle.std.proofs.Common.{◌≡◌, ℕ, zero, suc, ◌+◌, ◌-◌, ◌*◌, ◌/◌, ◌%◌, ◌<◌, ◌≤◌, Bool, true, Option, Some, None, ℤ, List, [], length, take, drop, refl, subst, arith, min}
use Rattle.std.proofs.Math.Nat.{mul-le-mul_right, mul-sub, mul_comm}
use Rattle.std.proofs.lemmas.List.{take-append-drop, length-take}
use Rattle.std.specs.Int.{div_ceil}
use Rattle.aec_params.specs.declared.settings.Settings.{Settings}
use Rattle.aec_params.specs.Params.{IsAllowed, interval_len}
use Rattle.aec_params.specs.Blocks.{Block}
use Rattle.aec_params.specs.BlockShapes.{AreBlocksFrom}
use Rattle.aec_params.specs.CodedDataSets.{CodedDataSet}
use Rattle.aec_params.specs.Reading.{is_wanted, LeadsTo, stream_blocks, kept_blocks, FillBlocks}
use Rattle.aec_params.proofs.SettingLaws.{block_size-positive, interval-positive}
use Rattle.aec_params.proofs.BlockShapeLaws.{AreBlocksFrom-front, AreBlocksFrom-interval}
use Rattle.aec_params.proofs.StreamLaws.{stream_blocks-shape}
use Rattle.aec_params.proofs.FillLaws.{samples-of_blocks}
use Rattle.aec_interval.specs.Pieces.{Place, place_at, counted_from}
use Rattle.aec_interval.specs.Skipping.{IsLedTo, asked_len, HasInterval, HasIntervals, AllSetsStandForSamples}
use Rattle.aec_interval.proofs.CuttingLemmas.{div_ceil-bounds}
use Rattle.aec_interval.proofs.ReachedLemmas.{length-stream_blocks}

-- ---- the samples of coded data sets

-- blocks can be at a place if they can be k intervals later
AreBlocksFrom-intervals : (s : Settings) (k i : ℕ) (blocks : List Block) → AreBlocksFrom s (i + k * s.interval) blocks → AreBlocksFrom s i blocks
AreBlocksFrom-intervals s zero i blocks h = subst (λ n. AreBlocksFrom s n blocks) (omega arith) h
AreBlocksFrom-intervals s (suc k) i blocks h =
    AreBlocksFrom-intervals s k i blocks (AreBlocksFrom-interval s (i + k * s.interval) blocks
    (subst (λ n. AreBlocksFrom s n blocks) (omega arith) h))

kept-shape : (s : Settings) (count : Option ℕ) (i j : ℕ) (blocks : List Block) → AreBlocksFrom s i blocks → AreBlocksFrom s i (kept_blocks s count j blocks)
kept-shape s None i j blocks h = h
kept-shape s (Some count) i j blocks h =
    let n = div_ceil count s.block_size - j in
    AreBlocksFrom-front s i (take n blocks) (drop n blocks) (rw take-append-drop h)

pub samples-of_sets : (s : Settings) (count : Option ℕ) (limit : ℕ) (bits : List Bool) (first start : ℕ) (sets : List CodedDataSet) (i b : ℕ) → IsAllowed s
    → first % s.interval ≡ 0 → LeadsTo s count limit bits first start sets i b
    → (samples : List ℤ) × FillBlocks s samples (kept_blocks s count first (stream_blocks s first sets))
samples-of_sets s count limit bits first start sets i b allowed aligned leads =
    let whole : first ≡ 0 + first / s.interval * s.interval = omega arith in
    let blocks : List Block = stream_blocks s first sets in
    let kept : List Block = kept_blocks s count first blocks in
    let shape : AreBlocksFrom s first blocks = stream_blocks-shape s count limit bits first start sets i b allowed leads in
    samples-of_blocks s kept allowed
    (AreBlocksFrom-intervals s (first / s.interval) 0 kept (rw (← whole) (kept-shape s count first first blocks shape)))

pub led-start : (s : Settings) (count : Option ℕ) (limit : ℕ) (bits : List Bool) (first start b : ℕ) → b ≡ start
    → IsLedTo s count limit bits first start first b
led-start s count limit bits first start b begins = record { sets = []; leads = (refl, begins) }

-- ---- how many samples are asked for

-- the count asks for the same number of samples of the kept blocks as of all blocks
asked_of : (f c k j n : ℕ) → n ≤ c * j → min (n - f * j) (min (c - f) k * j) ≡ min (k * j) (n - f * j)
asked_of f c k j n most = grind (arith, mul-le-mul_right, mul-sub, mul_comm)

length-counted_from : (s : Settings) (count : Option ℕ) (limit : ℕ) (bits : List Bool) (first start : ℕ) (sets : List CodedDataSet) (i b : ℕ) (all : List ℤ)
    → IsAllowed s → LeadsTo s count limit bits first start sets i b → FillBlocks s all (kept_blocks s count first (stream_blocks s first sets))
    → length (counted_from s count first all) ≡ asked_len s count first i
length-counted_from s None limit bits first start sets i b all allowed leads filled =
    let many : length (stream_blocks s first sets) ≡ i - first =
    omega (arith, length-stream_blocks s None limit bits first start sets i b (interval-positive s allowed) leads) in
    rw (filled.whole, many)
length-counted_from s (Some n) limit bits first start sets i b all allowed leads filled =
    let many : length (stream_blocks s first sets) ≡ i - first =
    omega (arith, length-stream_blocks s (Some n) limit bits first start sets i b (interval-positive s allowed) leads) in
    let needed = div_ceil n s.block_size in
    let kept : length all ≡ min (needed - first) (i - first) * s.block_size = rw (filled.whole, length-take, many) in
    rw (length-take, kept) (asked_of first needed (i - first) s.block_size n
    (omega (arith, div_ceil-bounds n s.block_size (block_size-positive s allowed))))

pub sets_stand_for_samples : AllSetsStandForSamples
sets_stand_for_samples s count limit bits i b sets j e allowed aligned leads =
    let all = samples-of_sets s count limit bits i b sets j e allowed aligned leads in (
      counted_from s count i all.0,
      record { sets = sets; leads = leads; all_samples = all.0; filled = all.1; counted = refl; same = refl },
    )

asked-few : (s : Settings) (count : Option ℕ) (first i : ℕ) → i ≤ first + s.interval → asked_len s count first i ≤ interval_len s
asked-few s count first i within = by_count count
  where
    most : (i - first) * s.block_size ≤ s.interval * s.block_size
    most = mul-le-mul_right s.block_size (omega arith)

    by_count : (count : Option ℕ) → asked_len s count first i ≤ interval_len s
    by_count None = omega (arith, most)
    by_count (Some n) = omega (arith, most)

pub interval-skipped : (s : Settings) (count : Option ℕ) (limit : ℕ) (bits : List Bool) (first start i b : ℕ) → IsAllowed s → first % s.interval ≡ 0
    → is_wanted s count bits first start ≡ true → IsLedTo s count limit bits first start i b → first < i → i ≤ first + s.interval
    → (is_wanted s count bits i b ≡ true → i ≡ first + s.interval)
    → HasInterval (place_at s count limit bits first start) (asked_len s count first i) (place_at s count limit bits i b)
interval-skipped s count limit bits first start i b allowed aligned wanted led ahead within to_end =
    let all = samples-of_sets s count limit bits first start led.sets i b allowed aligned led.leads in
    let counted = length-counted_from s count limit bits first start led.sets i b all.0 allowed led.leads all.1 in
    record {
      samples = counted_from s count first all.0;
      read = record {
        wanted = wanted;
        begins = aligned;
        piece = record { sets = led.sets; leads = led.leads; all_samples = all.0; filled = all.1; counted = refl; same = refl };
        few = omega (arith, asked-few s count first i within);
        ahead = ahead;
        within = within;
        to_end = to_end;
      };
      counted = counted;
    }

-- an interval skipped from the place of a reader
pub place-skipped : (p : Place) (s : Settings) (count : Option ℕ) (limit : ℕ) (list bits : List Bool) (first bit start i b len : ℕ)
    → place_at s count limit list first bit ≡ p → IsAllowed s → start ≡ bit → bits ≡ list → first % s.interval ≡ 0
    → is_wanted s count list first bit ≡ true → IsLedTo s count limit bits first start i b → first < i → i ≤ first + s.interval
    → (is_wanted s count bits i b ≡ true → i ≡ first + s.interval) → len ≡ asked_len s count first i
    → HasInterval p len (place_at s count limit bits i b)
place-skipped p s count limit list bits first bit start i b len is allowed begins same aligned wanted led ahead within to_end asked =
    rw (← is, ← begins, ← same, asked)
    (interval-skipped s count limit bits first start i b allowed aligned (rw (same, begins) wanted) led ahead within to_end)

-- ---- several intervals

-- several intervals skipped from the place of a reader
pub places-skipped : (p : Place) (s : Settings) (count : Option ℕ) (limit : ℕ) (list bits : List Bool) (first bit start i b len : ℕ)
    → place_at s count limit list first bit ≡ p → IsAllowed s → start ≡ bit → bits ≡ list → first % s.interval ≡ 0
    → is_wanted s count list first bit ≡ true → IsLedTo s count limit bits first start i b → first < i → len ≡ asked_len s count first i
    → HasIntervals p len (place_at s count limit bits i b)
places-skipped p s count limit list bits first bit start i b len is allowed begins same aligned wanted led ahead asked =
    let all = samples-of_sets s count limit bits first start led.sets i b allowed aligned led.leads in
    rw (← is, ← begins, ← same, asked) (record {
      samples = counted_from s count first all.0;
      read = record {
        wanted = rw (same, begins) wanted;
        begins = aligned;
        piece = record { sets = led.sets; leads = led.leads; all_samples = all.0; filled = all.1; counted = refl; same = refl };
        ahead = ahead;
      };
      counted = length-counted_from s count limit bits first start led.sets i b all.0 allowed led.leads all.1;
    })
