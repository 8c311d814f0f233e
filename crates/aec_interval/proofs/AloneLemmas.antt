-- If bits are read as samples, they are read from each interval on that a reading passes.
use Rattle.std.proofs.Common.{◌≡◌, ℕ, zero, suc, ◌+◌, ◌-◌, ◌*◌, ◌/◌, ◌%◌, ◌<◌, ◌≤◌, Bool, true, false, Option, Some, None, ℤ, List, [], ◌∷◌, ◌++◌, length, take, drop, refl, sym, arith, ◌⊎◌, inl, inr, ⊎_elim}
use Rattle.std.specs.Int.{div_ceil}
use Rattle.std.proofs.Math.Nat.{add-mul, sub-zero}
use Rattle.std.proofs.lemmas.Bool.{cases_lt, both_ways}
use Rattle.std.proofs.lemmas.List.{length-append, length-take, length-drop, take-take, drop_at, drop-take, take-append-drop}
use Rattle.aec_params.specs.declared.settings.Settings.{Settings}
use Rattle.aec_params.specs.Params.{IsAllowed}
use Rattle.aec_params.specs.Blocks.{Block, all_blocks_of}
use Rattle.aec_params.specs.CodedDataSets.{CodedDataSet}
use Rattle.aec_params.specs.Reading.{is_wanted, LeadsTo, stream_blocks, kept_blocks, IsBlockReading, FillBlocks, counted_samples, IsReading}
use Rattle.aec_params.proofs.SettingLaws.{block_size-positive, interval-positive}
use Rattle.aec_params.proofs.SampleLaws.{held-drop}
use Rattle.aec_interval.specs.Offsets.{IsPassed, IsReadAlone}
use Rattle.aec_interval.proofs.CuttingLemmas.{div_ceil-bounds, div_ceil-times}
use Rattle.aec_interval.proofs.OutcomeLemmas.{next_begin-ahead}
use Rattle.aec_interval.proofs.ReachedLemmas.{length-stream_blocks}
use Rattle.aec_interval.proofs.ReachedPlaceLemmas.{LeadsTo-within}
use Rattle.aec_interval.proofs.PieceReadingLemmas.{whole_intervals, all_blocks_of-append, FillBlocks-front, blocks-before, IsRest, the_rest as rest-from}
use Rattle.aec_interval.proofs.FewerLemmas.{fewer_blocks, FillBlocks-fewer, div_ceil-le}
use Rattle.aec_interval.proofs.DroppedLemmas.{from_start}
use Rattle.aec_interval.proofs.RenumberedLemmas.{leads-at, blocks-at}
use Rattle.aec_interval.proofs.WholeByteLemmas.{led-whole}

-- ---- samples from where an interval begins

FillBlocks-back : (s : Settings) (f : ℕ) (samples : List ℤ) (bs cs : List Block) → IsAllowed s → f % s.interval ≡ 0 → length bs ≡ f
    → FillBlocks s samples (bs ++ cs) → FillBlocks s (drop (f * s.block_size) samples) cs
FillBlocks-back s f samples bs cs a begins count filled = record {
  held = held-drop s (f * s.block_size) samples filled.held;
  whole = rw (length-drop, filled.whole, length-append, count) (omega arith);
  mapped = rw (← (drop_at (all_blocks_of s front) (all_blocks_of s back) f (rw first.mapped count)), together, drop_at);
}
  where
    front : List ℤ
    front = take (f * s.block_size) samples

    back : List ℤ
    back = drop (f * s.block_size) samples

    first : FillBlocks s front bs
    first = FillBlocks-front s f samples bs cs a begins count filled

    together : all_blocks_of s front ++ all_blocks_of s back ≡ bs ++ cs
    together =
        rw (
          ← (all_blocks_of-append s (f / s.interval) front back a (whole_intervals s f (length front) begins (rw (first.whole, count)))),
          take-append-drop,
        ) filled.mapped

-- ---- the reading from there on

module _ (s : Settings) (a : IsAllowed s) (count : Option ℕ) (limit : ℕ) (bits : List Bool) (f b : ℕ)
    (passed : IsPassed s count limit bits f b) (samples : List ℤ) (whole : IsReading s count limit bits samples) where
  abbrev before : List Block
  before = stream_blocks s 0 passed.sets

  before-count : length before ≡ f
  before-count = blocks-before s a count limit bits f b passed.sets passed.leads

  the_rest : IsRest s a count limit bits f b passed.sets passed.leads passed.wanted samples whole
  the_rest = rest-from s a count limit bits f b passed.sets passed.leads passed.wanted samples whole

  -- the blocks that are kept are the first of those that are read
  kept-few : (count : Option ℕ) (blocks : List Block) (k : ℕ) → k ≤ length (kept_blocks s count f blocks)
      → (k ≤ length blocks) × (take k (kept_blocks s count f blocks) ≡ take k blocks)
  kept-few None blocks k few = (few, refl)
  kept-few (Some n) blocks k few =
      let m = div_ceil n s.block_size - f in
      let len = length-take m blocks in
      (omega arith, take-take k m blocks (omega arith))

  -- the samples that are asked for are the first of those that fill the blocks
  asked-few : (count : Option ℕ) (k : ℕ) (all : List ℤ) → k ≤ length (counted_samples count all) - f * s.block_size
      → (f * s.block_size + k ≤ length all ⊎ (k ≡ 0))
      × (take k (drop (f * s.block_size) (counted_samples count all)) ≡ take k (drop (f * s.block_size) all))
  asked-few None k all few = (by_count k few, refl)
    where
      by_count : (k : ℕ) → k ≤ length all - f * s.block_size → f * s.block_size + k ≤ length all ⊎ (k ≡ 0)
      by_count zero few = inr refl
      by_count (suc k) few = inl (omega arith)
  asked-few (Some n) k all few = (by_count k few, cut (cases_lt n (f * s.block_size)))
    where
      by_count : (k : ℕ) → k ≤ length (take n all) - f * s.block_size → f * s.block_size + k ≤ length all ⊎ (k ≡ 0)
      by_count zero few = inr refl
      by_count (suc k) few = inl (omega (arith, length-take n all))

      cut : (n < f * s.block_size) ⊎ (f * s.block_size ≤ n) → take k (drop (f * s.block_size) (take n all)) ≡ take k (drop (f * s.block_size) all)
      cut (inl short) =
          let none : k ≡ 0 = omega (arith, length-take n all) in
          rw none
      cut (inr long) =
          let split : n ≡ f * s.block_size + (n - f * s.block_size) = omega arith in
          rw (split, drop-take) (take-take k (n - f * s.block_size) (drop (f * s.block_size) all) (omega (arith, length-take n all)))

  -- a coded data set stands there
  some_left : (sets : List CodedDataSet) (j e : ℕ) → LeadsTo s count limit bits f b sets j e → is_wanted s count bits j e ≡ false → b < length bits
  some_left [] j e leads done = absurd (both_ways (is_wanted s count bits f b) (rw (← leads.0, ← leads.1) done) passed.wanted)
  some_left (c ∷ sets) j e leads done = (next_begin-ahead s bits f b c leads.1).1

  begin_within : b ≤ length bits
  begin_within = LeadsTo-within s count limit bits 0 0 passed.sets f b (omega arith) passed.leads

  begin_whole : s.pad ≡ true → b % 8 ≡ 0
  begin_whole pad =
      let read = the_rest.read in
      let left = some_left read.sets read.end_block read.end_bit read.leads read.done in
      ⊎_elim (λ is. omega arith) (λ all. absurd (omega arith))
      (led-whole s count limit bits 0 0 passed.sets f b pad (λ _. inl (omega arith)) passed.leads passed.begins)

  module _ (other k : ℕ) (few : k ≤ length samples - f * s.block_size) where
    asked : (f * s.block_size + k ≤ length whole.all_samples ⊎ (k ≡ 0))
        × (take k (drop (f * s.block_size) (counted_samples count whole.all_samples)) ≡ take k (drop (f * s.block_size) whole.all_samples))
    asked = asked-few count k whole.all_samples (rw whole.counted at few)

    all-len : length whole.all_samples ≡ f * s.block_size + length the_rest.later * s.block_size
    all-len = rw (the_rest.filled.whole, length-append, before-count, add-mul)

    k-few : k ≤ length the_rest.later * s.block_size
    k-few = ⊎_elim (λ h. omega (arith, all-len)) (λ none. omega arith) asked.0

    needed-few : div_ceil k s.block_size ≤ length the_rest.later
    needed-few =
        let positive = block_size-positive s a in
        omega (
          arith,
          div_ceil-le k (length the_rest.later * s.block_size) s.block_size positive k-few,
          div_ceil-times (length the_rest.later) s.block_size positive,
        )

    from_kept : (div_ceil k s.block_size ≤ length (stream_blocks s f the_rest.read.sets))
        × (take (div_ceil k s.block_size) (kept_blocks s count f (stream_blocks s f the_rest.read.sets))
        ≡ take (div_ceil k s.block_size) (stream_blocks s f the_rest.read.sets))
    from_kept = kept-few count (stream_blocks s f the_rest.read.sets) (div_ceil k s.block_size) (rw the_rest.read.kept at needed-few)

    stream-len : f + length (stream_blocks s f the_rest.read.sets) ≡ the_rest.read.end_block
    stream-len =
        length-stream_blocks s count limit bits f b the_rest.read.sets the_rest.read.end_block the_rest.read.end_bit (interval-positive s a) the_rest.read.leads

    blocks-most : div_ceil ((the_rest.read.end_block - f) * s.block_size) s.block_size ≡ the_rest.read.end_block - f
    blocks-most = div_ceil-times (the_rest.read.end_block - f) s.block_size (block_size-positive s a)

    same-first : f ≡ f + 0
    same-first = omega arith

    way : (i : ℕ) × (the_rest.read.end_block ≡ f + i)
        × LeadsTo s (Some ((the_rest.read.end_block - f) * s.block_size)) other bits 0 b the_rest.read.sets i the_rest.read.end_bit
    way = leads-at s a count limit other bits f passed.begins 0 b the_rest.read.sets the_rest.read.end_block the_rest.read.end_bit
        ((the_rest.read.end_block - f) * s.block_size) (rw (← same-first) the_rest.read.leads) (omega (arith, blocks-most))

    alone_blocks : IsBlockReading s (Some k) other (drop b bits) 0 0 (take (div_ceil k s.block_size - 0) (stream_blocks s 0 the_rest.read.sets))
    alone_blocks =
        let m = (the_rest.read.end_block - f) * s.block_size in
        let dropped = from_start s (Some m) other bits b begin_within begin_whole the_rest.read.sets way.0 the_rest.read.end_bit way.2 in
        fewer_blocks s a other (drop b bits) m k 0 0 the_rest.read.sets way.0 dropped.0 dropped.2 (omega (arith, way.1, from_kept.0, stream-len))

    alone_same : take (div_ceil k s.block_size - 0) (stream_blocks s 0 the_rest.read.sets) ≡ take (div_ceil k s.block_size) the_rest.later
    alone_same = rw (sub-zero, ← (blocks-at s a count limit other bits f passed.begins), ← same-first) (sym (rw the_rest.read.kept from_kept.1))

    pub read_from_block : IsReading s (Some k) other (drop b bits) (take k (drop (f * s.block_size) samples))
    read_from_block = record {
      blocks = take (div_ceil k s.block_size) the_rest.later;
      read = rw alone_same at alone_blocks;
      all_samples = take (div_ceil k s.block_size * s.block_size) (drop (f * s.block_size) whole.all_samples);
      filled = FillBlocks-fewer s (div_ceil k s.block_size) (drop (f * s.block_size) whole.all_samples) the_rest.later a needed-few
          (FillBlocks-back s f whole.all_samples before the_rest.later a passed.begins before-count the_rest.filled);
      counted =
          rw (
            whole.counted,
            asked.1,
            take-take k (div_ceil k s.block_size * s.block_size) (drop (f * s.block_size) whole.all_samples)
                (div_ceil-bounds k s.block_size (block_size-positive s a)).0,
          );
    }

-- if bits are read as samples, interval i of them is read from the bit on where the reading passes
pub passed-alone : (s : Settings) (count : Option ℕ) (limit : ℕ) (bits : List Bool) (i b : ℕ) (samples : List ℤ) → IsAllowed s
    → IsPassed s count limit bits (i * s.interval) b → IsReading s count limit bits samples → IsReadAlone s bits samples i b
passed-alone s count limit bits i b samples a passed whole = record {
  within = begin_within s a count limit bits (i * s.interval) b passed samples whole;
  whole_bytes = begin_whole s a count limit bits (i * s.interval) b passed samples whole;
  read = λ other k few. rw regrouped at (read_from_block s a count limit bits (i * s.interval) b passed samples whole other k (rw regrouped few));
}
  where
    regrouped : (i r j : ℕ) → i * r * j ≡ i * (j * r)
    regrouped i r j = omega arith
