-- Whole intervals of blocks, of which none needs a test of its place.
use Rattle.std.proofs.Common.{◌≡◌, ℕ, ◌+◌, ◌-◌, ◌*◌, ◌/◌, ◌%◌, ◌<◌, ◌≤◌, ◌&&◌, Bool, true, false, Option, Some, None, Ok, ℤ, pos, List, [], ◌∷◌, ◌++◌, length, take, drop, ⊎_elim, refl, ◌∙◌, subst, arith}
use Rattle.std.proofs.Math.Nat.{one-mul, mul-le-mul_right, add-mul-mod_self_right, add-mul, le-mul_of_pos_right}
use Rattle.std.proofs.lemmas.Bool.{cases_lt}
use Rattle.std.proofs.Math.Seq.{take-append-add}
use Rattle.std.proofs.lemmas.List.{take_at, length-take, length-drop, length-take-le, take-append-le}
use borrow.Rule.Slice.PartMut.{put_mid}
use Rattle.std.specs.List.{AllByRecursion}
use Rattle.aec_params.specs.declared.settings.Settings.{Settings}
use Rattle.aec_params.specs.Params.{IsAllowed, IsHeld, interval_len, sample_pattern}
use Rattle.aec_params.specs.Blocks.{Block}
use Rattle.aec_params.specs.Places.{segment_left, is_reference_block, block_of_values}
use Rattle.aec_params.specs.CodedDataSets.{CodedDataSet}
use Rattle.aec_params.specs.Reading.{is_wanted, LeadsTo, stream_blocks, kept_blocks, FillBlocks}
use Rattle.aec_params.proofs.SettingLaws.{block_size-positive, interval-positive}
use Rattle.aec_params.specs.Limits.{most_blocks}
use Rattle.aec_bits.specs.BitReader.{Cursor, has_one}
use Rattle.aec_block.specs.declared.cds.RunLen.{RunLen}
use Rattle.aec_block.specs.declared.cds.RunLen.TheVariants.{Blocks}
use Rattle.aec_block.specs.declared.cds.Cds.{Cds}
use Rattle.aec_block.specs.declared.cds.Cds.TheVariants.{Single}
use Rattle.aec_block.specs.Gathering.{bits_at}
use Rattle.aec_block.specs.ReadCds.{IsReadAs, IsReadSingle}
use Rattle.aec_block.specs.SkipCds.{read_len}
use Rattle.aec_block.specs.Unmapping.{Unmaps}
use Rattle.aec_interval.specs.NextBlock.{FillsNext}
use Rattle.aec_interval.specs.NextSet.{run_count, kept_count, block_behind, IsNextCds, cds_front}
use Rattle.aec_interval.specs.Reached.{AreFilled, IsReached}
use Rattle.aec_interval.specs.Pieces.{Place, place_at, counted_from, ReadsIntervals}
use Rattle.aec_interval.specs.Steps.{IsUntestedEnd}
use Rattle.aec_interval.specs.UntestedBlocks.{IsUntestedAt, ReadsBlocks}
use Rattle.aec_interval.specs.ShortIntervals.{AreWithin, begun_at, ReadsFirst, ReadsWhole, FillsIntervals}
use Rattle.aec_interval.proofs.NextFillLemmas.{fills_block_single, fills_block_reference}
use Rattle.aec_interval.proofs.ReadNextLemmas.{reached-start, next-cds, reached-next}
use Rattle.aec_interval.proofs.PlaceLemmas.{LeadsTo-append}
use Rattle.aec_interval.proofs.ReachedLemmas.{kept_blocks-joined, blocks-reached, FillBlocks-reached, AreFilled-reached}
use Rattle.aec_interval.proofs.PieceReadingLemmas.{FillBlocks-append}
use Rattle.aec_interval.proofs.UntestedLemmas.{AreUntested, untested-within, few_samples, wanted_here, untested-placed, untested-begins, untested-kept, none_read, blocks_fit}

-- ---- the first blocks of an interval

-- the coded data set with which an interval begins was read, with a reference sample or without
-- one; it stands for z blocks
module _ (s : Settings) (old new : Cursor) (due : Bool) (cds : Cds) (len : RunLen) (z : ℕ) (more : List ℤ) (allowed : IsAllowed s)
    (is_due : s.preprocess ≡ due) (all : due ≡ (due && true)) (len_is : len ≡ read_len cds) (read : (c : CodedDataSet) × IsReadAs s due old new c cds)
    (one : has_one (bits_at old) ≡ true) (count_is : run_count s 0 len ≡ z) (some : 1 ≤ z) (fits : z ≤ segment_left s 0)
    (fills : (k : ℕ) → AreFilled s k [] → IsNextCds s k [] z cds → FillsNext s [] more (cds_front s z cds)) where
  module _ (count : Option ℕ) (limit i : ℕ) (aligned : i % s.interval ≡ 0) (ends : IsUntestedEnd s count limit i (i + s.interval)) where
    are : AreUntested s count limit i (i + s.interval) i z old
    are = record {
      allowed = allowed;
      aligned = aligned;
      after = omega arith;
      ends = ends;
      some = some;
      within = omega arith;
      one = one;
    }

    wanted : is_wanted s count old.list i old.pos ≡ true
    wanted = wanted_here are

    due-there : due ≡ is_reference_block s (i % s.interval)
    due-there = rw (all, is_due, aligned)

    placed : Ok (i + z) ≡ block_behind s count limit i (run_count s (i % s.interval) len) 0
    placed = let count_there : run_count s (i % s.interval) len ≡ z = rw aligned count_is in rw count_there (untested-placed are (rw aligned fits))

    begun : IsReached s count limit old.list i old.pos i old.pos []
    begun = reached-start s count limit old.list i old.pos old.pos [] refl refl

    kept : z ≡ kept_count s count i (i + z - i)
    kept = untested-kept are

    next : IsNextCds s (i - i) [] z cds
    next = next-cds old new allowed begun wanted due-there len_is read 0 (i + z) placed z (i - i) aligned refl kept

    filled : AreFilled s (i - i) []
    filled = AreFilled-reached allowed begun wanted

    first-leads : IsUntestedAt s (begun_at count limit i old.pos) (i + s.interval) (i + z) new more
    first-leads = record {
      reached = reached-next old new allowed begun wanted due-there len_is read 0 (i + z) placed z more
          new.list new.pos kept (fills (i - i) filled next) refl (untested-begins are new.list new.pos);
      aligned = aligned;
      behind = omega arith;
      untested = ends;
    }

  pub reads_front : new.list ≡ old.list → AllByRecursion (IsHeld s) more → ReadsFirst s z old new more
  reads_front same held = record { list = same; held = held; leads = first-leads }

-- the first segment of an interval has room for one block, that of a short interval for all
pub first_fits : (s : Settings) (z : ℕ) → IsAllowed s → s.interval ≤ 64 → z ≤ s.interval → z ≤ segment_left s 0
first_fits s z allowed short within = omega arith

one_first : (s : Settings) → IsAllowed s → 1 ≤ segment_left s 0
one_first s allowed = omega (arith, interval-positive)

held-unmapped : (s : Settings) (x : ℤ) (values : List ℕ) (more : List ℤ) → Unmaps s x values [] more → AllByRecursion (IsHeld s) more
held-unmapped s x values more unmaps = rw unmaps.appended unmaps.held

pub reads_first : (s : Settings) (old new : Cursor) (pattern : ℕ) (values : List ℕ) (x : ℤ) (more : List ℤ) → IsAllowed s → s.preprocess ≡ true
    → IsReadSingle s old new (Some pattern) values → has_one (bits_at old) ≡ true → IsHeld s x → sample_pattern s x ≡ pattern → Unmaps s x values [] more
    → new.list ≡ old.list → ReadsFirst s 1 old new more
reads_first s old new pattern values x more allowed on read one held pattern_is unmaps same =
    reads_front s old new true (Single block) (Blocks 1) 1 more allowed on refl refl (read.set, read.read) one refl (omega arith) (one_first s allowed)
    (λ k filled next. fills_block_reference s [] more block pattern x values allowed next refl held pattern_is refl unmaps) same
    (held-unmapped s x values more unmaps)
  where
    block : Block
    block = record { reference = Some pattern; values = values }

pub reads_unpredicted : (s : Settings) (old new : Cursor) (values : List ℕ) (x : ℤ) (more : List ℤ) → IsAllowed s → s.preprocess ≡ false
    → IsReadSingle s old new None values → has_one (bits_at old) ≡ true → x ≡ pos 0 → Unmaps s x values [] more → new.list ≡ old.list
    → ReadsFirst s 1 old new more
reads_unpredicted s old new values x more allowed off read one zero unmaps same =
    reads_front s old new false (Single (block_of_values None values)) (Blocks 1) 1 more allowed off refl refl (read.set, read.read) one refl (omega arith)
    (one_first s allowed)
    (λ k filled next. fills_block_single s [] more (block_of_values None values) x values allowed next refl zero refl unmaps) same
    (held-unmapped s x values more unmaps)

-- the places that were filled are those of the first block
pub filled_front : {X : Type 0} (filled rest samples : List X) (n size : ℕ) → length filled ≡ length (take n samples) → n ≡ size → size ≤ length samples
    → take (1 * size) (filled ++ rest) ≡ filled
filled_front filled rest samples n size is all room = take_at filled rest (1 * size) (omega (arith, length-take n samples, one-mul size))

-- ---- one interval

pub whole_end : (s : Settings) (count : Option ℕ) (limit i n : ℕ) → IsAllowed s → n ≡ i + s.interval → AreWithin s count limit n
    → IsUntestedEnd s count limit i n
whole_end s count limit i n allowed is within =
    untested-within s count limit i n 0 n allowed within.low within.counted is (rw within.unpadded) (omega arith) within.samples

-- the first blocks of an interval, and the others
pub reads_interval : (s : Settings) (first rest : ℕ) (old mid new : Cursor) (front samples : List ℤ) → IsAllowed s → first + rest ≡ s.interval
    → ReadsFirst s first old mid front → ReadsBlocks s first rest mid front new samples → ReadsWhole s 1 old new samples
reads_interval s first rest old mid new front samples allowed all begun rest_read = record {
  list = rest_read.list ∙ begun.list;
  leads = λ count limit i aligned within.
      let one : i + 1 * s.interval ≡ i + s.interval = omega arith in
      let ends : IsUntestedEnd s count limit i (i + s.interval) = rw one at (whole_end s count limit i _ allowed one within) in
      let there = rest_read.leads (begun_at count limit i old.pos) (i + s.interval) (i + first) refl (omega arith)
      (begun.leads count limit i aligned ends) in
      let end : i + first + rest ≡ i + 1 * s.interval = omega arith in
      rw (rest_read.list, begun.list, end) at there.reached;
}

-- the first blocks of an interval, if these are all
pub reads_whole : (s : Settings) (n : ℕ) (old new : Cursor) (samples : List ℤ) → IsAllowed s → n ≡ s.interval → ReadsFirst s n old new samples
    → ReadsWhole s 1 old new samples
reads_whole s n old new samples allowed all first =
    reads_interval s n 0 old new new samples samples allowed (omega arith) first (none_read s n new samples first.held)

-- ---- intervals one after the other

pub reads_none : (s : Settings) (old new : Cursor) (samples : List ℤ) → new ≡ old → samples ≡ [] → ReadsWhole s 0 old new samples
reads_none s old new samples same none = record {
  list = rw same;
  leads = λ count limit i aligned within.
      let nothing : i ≡ i + 0 * s.interval = omega arith in
      rw (← nothing) (reached-start s count limit old.list i old.pos new.pos samples (rw same) none);
}

-- the reader hasn't moved, and the front of the samples is the same
pub reads_stay : (s : Settings) (n at len : ℕ) (old here there : Cursor) (before after : List ℤ) → there ≡ here → at ≡ len
    → take at after ≡ take at before → ReadsWhole s n old here (take at before) → ReadsWhole s n old there (take len after)
reads_stay s n at len old here there before after stays place kept reads = rw stays (rw (← kept, place) at reads)

wanted_first : (s : Settings) (count : Option ℕ) (limit : ℕ) (bits : List Bool) (i b : ℕ) (sets : List CodedDataSet) (j e : ℕ) → i < j
    → LeadsTo s count limit bits i b sets j e → is_wanted s count bits i b ≡ true
wanted_first s count limit bits i b [] j e further leads = absurd (omega arith)
wanted_first s count limit bits i b (c ∷ sets) j e further leads = leads.0

-- a reading goes on where an interval begins
reached-join : (s : Settings) (count : Option ℕ) (limit : ℕ) (bits : List Bool) (first start n i b j e : ℕ) (xs ys : List ℤ) → IsAllowed s
    → i ≡ first + n * s.interval → i < j → IsReached s count limit bits first start i b xs → IsReached s count limit bits i b j e ys
    → IsReached s count limit bits first start j e (xs ++ ys)
reached-join s count limit bits first start n i b j e xs ys allowed i_is further front back = record {
  sets = front.sets ++ back.sets;
  leads = LeadsTo-append s count limit bits first start front.sets i b back.sets j e front.leads back.leads;
  filled = rw (kept_blocks-joined s count limit bits first start front.sets i b back.sets allowed front.leads wanted)
      (FillBlocks-append s n xs ys (stream_blocks s first front.sets) (kept_blocks s count i (stream_blocks s i back.sets)) allowed whole filled back.filled);
}
  where
    wanted : is_wanted s count bits i b ≡ true
    wanted = wanted_first s count limit bits i b back.sets j e further back.leads

    filled : FillBlocks s xs (stream_blocks s first front.sets)
    filled = FillBlocks-reached allowed front wanted

    whole : length xs ≡ n * interval_len s
    whole =
        let blocks : length (stream_blocks s first front.sets) ≡ n * s.interval = omega (arith, blocks-reached allowed front wanted) in
        omega (arith, rw blocks at filled.whole)

within_less : (s : Settings) (count : Option ℕ) (limit i j : ℕ) → i ≤ j → AreWithin s count limit j → AreWithin s count limit i
within_less s count limit i j less within = record {
  unpadded = within.unpadded;
  low = within.low;
  counted = within.counted;
  samples = omega (arith, mul-le-mul_right s.block_size less);
}

-- m intervals more
reads_more : (s : Settings) (n m : ℕ) (old mid new : Cursor) (xs ys all : List ℤ) → IsAllowed s → 0 < m → ReadsWhole s n old mid xs
    → ReadsWhole s m mid new ys → all ≡ xs ++ ys → ReadsWhole s (n + m) old new all
reads_more s n m old mid new xs ys all allowed some front back is = record {
  list = back.list ∙ front.list;
  leads = λ count limit i aligned within.
      let middle : ℕ = i + n * s.interval in
      let end : middle + m * s.interval ≡ i + (n + m) * s.interval = omega arith in
      let there : middle % s.interval ≡ 0 = add-mul-mod_self_right i n s.interval ∙ aligned in
      let first = front.leads count limit i aligned (within_less s count limit _ _ (omega arith) within) in
      let last = back.leads count limit middle there (rw end within) in
      let joined =
      reached-join s count limit old.list i old.pos n middle mid.pos (middle + m * s.interval) new.pos xs ys allowed refl
      (omega (arith, le-mul_of_pos_right m (interval-positive s allowed))) first (rw front.list at last) in
      rw is (rw end at joined);
}

-- one interval more
pub reads_one_more : (s : Settings) (n : ℕ) (old mid new : Cursor) (xs ys all : List ℤ) → IsAllowed s → ReadsWhole s n old mid xs → ReadsWhole s 1 mid new ys
    → all ≡ xs ++ ys → ReadsWhole s (n + 1) old new all
reads_one_more s n old mid new xs ys all allowed front back is = reads_more s n 1 old mid new xs ys all allowed (omega arith) front back is

-- samples before a part stay the same
pub front_kept : (xs part : List ℤ) (at k : ℕ) → at ≤ length xs → take at (put_mid at k xs part) ≡ take at xs
front_kept xs part at k within = take_at (take at xs) (part ++ drop k (drop at xs)) at (length-take-le at xs within)

-- the samples before a part, and the first q of the part
front_and_part : (xs part : List ℤ) (at k q : ℕ) → at ≤ length xs → q ≤ length part → take (at + q) (put_mid at k xs part) ≡ take at xs ++ take q part
front_and_part xs part at k q within few = grind (arith, length-take-le, take-append-add, take-append-le)

-- after n intervals of at most `most`, the rest of the samples has room for the others
module _ (s : Settings) (n most at len : ℕ) (samples : List ℤ) (place : at ≡ n * len) (size : len ≡ interval_len s) (order : n ≤ most)
    (all : most * interval_len s ≤ length samples) where
  abbrev pub rest_old : List ℤ
  rest_old = take (length samples - at) (drop at samples)

  fit : at + (most - n) * interval_len s ≤ length samples
  fit = blocks_fit 0 at n most (interval_len s) (length samples) (grind arith) order (omega arith)

  pub rest_within : at ≤ length samples
  rest_within = omega (arith, fit)

  pub rest_room : (most - n) * interval_len s ≤ length rest_old
  rest_room = omega (arith, fit, length-take (length samples - at) (drop at samples), length-drop at samples)

  -- others were read into the rest of the samples
  module _ (m k : ℕ) (old mid new : Cursor) (rest : List ℤ) (allowed : IsAllowed s) (front : ReadsWhole s n old mid (take at samples))
      (fills : FillsIntervals s (most - n) mid rest_old m new rest) (end : k ≡ at + m * interval_len s) where
    abbrev pub rest_new : List ℤ
    rest_new = put_mid at (length samples - at) samples rest

    few : m * interval_len s ≤ length rest
    few = omega (arith, mul-le-mul_right (interval_len s) fills.within, rest_room)

    cut : take k rest_new ≡ take at samples ++ take (m * interval_len s) rest
    cut = rw end (front_and_part samples rest at (length samples - at) (m * interval_len s) rest_within few)

    some : 0 < m → ReadsWhole s (n + m) old new (take k rest_new)
    some there =
        reads_more s n m old mid new (take at samples) (take (m * interval_len s) rest) (take k rest_new) allowed there front (fills.reads there) cut

    none : m ≤ 0 → ReadsWhole s (n + m) old new (take k rest_new)
    none least =
        let nothing : m ≡ 0 = omega arith in
        let place : k ≡ at = grind arith in
        let same : take k rest_new ≡ take at samples = rw place (front_kept samples rest at (length samples - at) rest_within) in
        rw (same, fills.stays nothing) (subst (λ j. ReadsWhole s j old mid (take at samples)) (omega arith) front)

    pub reads_rest : ReadsWhole s (n + m) old new (take k rest_new)
    reads_rest = ⊎_elim some none (cases_lt 0 m)

-- ---- how many samples

-- the samples of the first blocks, and of the others
pub rest_len : (first n j r len : ℕ) → first ≤ r → n ≡ j → len ≡ j * r → len ≡ first * n + (r - first) * j
rest_len first n j r len within same is = grind (arith, add-mul)

pub part_fits : (at count most len interval total : ℕ) → at ≡ count * len → count < most → len ≡ interval → most * interval ≤ total → at + len ≤ total
part_fits at count most len interval total place below same room = grind arith

pub whole_within : (first n r j samples left len : ℕ) → 0 < n → 0 < len → len ≡ j * r → left ≡ samples - first * j → n ≤ left / len
    → (first + n * r) * j ≤ samples
whole_within first n r j samples left len some positive len_is left_is within = grind (arith, mul-le-mul_right)

pub parts_within : (k q total len interval most : ℕ) → k ≤ q → q ≡ total / len → len ≡ interval → total ≤ most → k * interval ≤ most
parts_within k q total len interval most fewer is same within = grind arith

pub within_few : (s : Settings) (count : Option ℕ) (limit first n : ℕ) → IsAllowed s → first < most_blocks
    → (0 < n → AreWithin s count limit (first + n * s.interval)) → first + n * s.interval < most_blocks
within_few s count limit first n allowed few within = ⊎_elim some none (cases_lt 0 n)
  where
    some : 0 < n → first + n * s.interval < most_blocks
    some there = grind (arith, few_samples, le-mul_of_pos_right, block_size-positive)

    none : n ≤ 0 → first + n * s.interval < most_blocks
    none least = grind arith

-- ---- by places

pub place-several : (p : Place) (s : Settings) (count : Option ℕ) (limit : ℕ) (list bits : List Bool) (first bit start i b : ℕ) (samples asked : List ℤ)
    → place_at s count limit list first bit ≡ p → start ≡ bit → bits ≡ list → first % s.interval ≡ 0 → is_wanted s count list first bit ≡ true
    → IsReached s count limit bits first start i b samples → first < i → asked ≡ counted_from s count first samples
    → ReadsIntervals p asked (place_at s count limit bits i b)
place-several p s count limit list bits first bit start i b samples asked is begins same aligned wanted reached further asked_is =
    rw (← is, ← begins, ← same) (record {
      wanted = rw (same, begins) wanted;
      begins = aligned;
      piece = record { sets = reached.sets; leads = reached.leads; all_samples = samples; filled = reached.filled; counted = asked_is; same = refl };
      ahead = further;
    })
