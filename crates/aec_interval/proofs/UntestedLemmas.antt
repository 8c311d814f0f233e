-- Blocks of coded data sets without a reference sample, of which none needs a test of its place.
use Rattle.std.proofs.Common.{length, take, ◌≡◌, ℕ, ◌+◌, ◌-◌, ◌*◌, ◌/◌, ◌%◌, ◌<◌, ◌≤◌, ◌==◌, ◌&&◌, Bool, true, false, if◌then◌else◌, Option, Some, None, IfSome, unwrap_or, ⊎_elim, Ok, ℤ, List, [], ◌∷◌, ◌++◌, refl, sym, ◌∙◌, arith}
use Rattle.std.proofs.Math.Nat.{mod-lt, mul-le-mul_right, le-mul_of_pos_right, add-mul}
use Rattle.std.proofs.lemmas.Grind.{div_ceil_times}
use Rattle.std.proofs.lemmas.Bool.{cases_lt, and_right, ne_eqb, lt-ltb, le-ltb, le-leb, leb-true}
use Rattle.std.proofs.Math.Seq.{take-append_seam}
use Rattle.std.proofs.lemmas.List.{take_all}
use Rattle.std.proofs.lemmas.Slice.{take-put_mid}
use borrow.Rule.Slice.PartMut.{put_mid}
use Rattle.std.specs.List.{AllByRecursion}
use Rattle.std.specs.Int.{div_ceil}
use Rattle.aec_params.specs.declared.settings.Settings.{Settings}
use Rattle.aec_params.specs.declared.fault.Fault.{Fault}
use Rattle.aec_params.specs.declared.fault.Fault.TheVariants.{Memory}
use Rattle.aec_params.specs.CodedDataSets.{CodedDataSet}
use Rattle.aec_params.specs.Params.{IsAllowed, IsHeld}
use Rattle.aec_params.specs.Places.{segment_left, is_reference_block, block_of_values}
use Rattle.aec_params.specs.Reading.{is_wanted, keeps_limit, begin_of, LeadsTo}
use Rattle.aec_params.proofs.SettingLaws.{block_size-positive, interval-positive}
use Rattle.aec_params.specs.Limits.{most_blocks, most_samples}
use Rattle.aec_bits.specs.BitReader.{Cursor, has_one}
use Rattle.aec_block.specs.declared.cds.RunLen.TheVariants.{Blocks}
use Rattle.aec_block.specs.declared.cds.RunLen.{RunLen}
use Rattle.aec_block.specs.declared.cds.Cds.{Cds}
use Rattle.aec_block.specs.declared.cds.Cds.TheVariants.{Single}
use Rattle.aec_block.specs.Gathering.{bits_at}
use Rattle.aec_block.specs.ReadCds.{IsReadAs, IsReadSingle}
use Rattle.aec_block.specs.SkipCds.{read_len}
use Rattle.aec_block.specs.Unmapping.{Unmaps}
use Rattle.aec_block.proofs.UnmappingLemmas.{unmaps-behind}
use Rattle.aec_interval.specs.NextBlock.{last_sample, IsNextBlock, FillsNext}
use Rattle.aec_interval.specs.NextSet.{run_count, block_behind, kept_count, IsNextCds, cds_front}
use Rattle.aec_interval.specs.Steps.{IsUntestedEnd}
use Rattle.aec_interval.specs.declared.reading.Wanted.{Wanted}
use Rattle.aec_interval.specs.UntestedBlocks.{IsUntestedAt, ReadsBlocks}
use Rattle.aec_interval.specs.Reached.{LeadsBehindOne, RefusesUpTo, no_room}
use Rattle.aec_interval.proofs.BlockLemmas.{all-append}
use Rattle.aec_interval.proofs.ReadIntervalLemmas.{place-behind}
use Rattle.aec_interval.proofs.NextFillLemmas.{fills_block_single}
use Rattle.aec_interval.proofs.ReadNextLemmas.{next-cds, reached-next}

-- ---- when no test is needed

-- no block before `last` needs a test: `last` is within the interval, and before its end if padding
-- follows; the count, or else the limit, allows the samples up to it
pub untested-within : (s : Settings) (count : Option ℕ) (limit first end pad last : ℕ) → IsAllowed s → limit ≤ most_samples
    → IfSome count (λ n. n ≤ most_samples) → end ≡ first + s.interval → pad ≡ (if s.pad then 1 else 0) → last ≤ end - pad
    → last * s.block_size ≤ unwrap_or count limit
    → IsUntestedEnd s count limit first last
untested-within s count limit first end pad last allowed low counted end_is pad_is within samples = record {
  within = omega arith;
  unpadded = λ padded.
      let one : pad ≡ 1 = rw (pad_is, padded) in
      omega (arith, interval-positive s allowed);
  needed = needed_by count samples;
  keeps = keeps_by count samples;
  few = few_by count counted samples;
}
  where
    positive : 0 < s.block_size
    positive = block_size-positive s allowed

    needed_by : (count : Option ℕ) → last * s.block_size ≤ unwrap_or count limit → IfSome count (λ n. last ≤ div_ceil n s.block_size)
    needed_by None few = tt
    needed_by (Some n) few = ⊎_elim (λ (past : div_ceil n s.block_size < last).
        let more : (div_ceil n s.block_size + 1) * s.block_size ≤ last * s.block_size = mul-le-mul_right s.block_size (omega arith) in
        absurd (omega (arith, div_ceil_times n s.block_size positive, add-mul (div_ceil n s.block_size) 1 s.block_size)))
        (λ (kept : last ≤ div_ceil n s.block_size). kept) (cases_lt (div_ceil n s.block_size) last)

    keeps_by : (count : Option ℕ) → last * s.block_size ≤ unwrap_or count limit → keeps_limit s count limit last ≡ true
    keeps_by None few = le-leb (last * s.block_size) limit few
    keeps_by (Some n) few = refl

    few_by : (count : Option ℕ) → IfSome count (λ n. n ≤ most_samples) → last * s.block_size ≤ unwrap_or count limit → last < most_blocks
    few_by None counted few = omega (arith, le-mul_of_pos_right last positive)
    few_by (Some n) counted few = omega (arith, le-mul_of_pos_right last positive)

pub few_samples : (count : Option ℕ) (limit : ℕ) → limit ≤ most_samples → IfSome count (λ n. n ≤ most_samples) → unwrap_or count limit ≤ most_samples
few_samples None limit low counted = low
few_samples (Some n) limit low counted = counted

-- z blocks from block i on, of the interval that begins at block `first`, need no test of their
-- places, and a 1 bit is left
pub record AreUntested (s : Settings) (count : Option ℕ) (limit first end i z : ℕ) (old : Cursor) : Type 0 where
  pub allowed : IsAllowed s
  pub aligned : first % s.interval ≡ 0
  pub after : first ≤ i
  pub ends : IsUntestedEnd s count limit first end
  pub some : 1 ≤ z
  pub within : i + z ≤ end
  pub one : has_one (bits_at old) ≡ true

module _ {s : Settings} {count : Option ℕ} {limit first end i z : ℕ} {old : Cursor} (are : AreUntested s count limit first end i z old) where
  wanted_by : (count : Option ℕ) → IsUntestedEnd s count limit first end → is_wanted s count old.list i old.pos ≡ true
  wanted_by None ends = are.one
  wanted_by (Some n) ends = lt-ltb i (div_ceil n s.block_size) (omega arith)

  pub wanted_here : is_wanted s count old.list i old.pos ≡ true
  wanted_here = wanted_by count are.ends

  pub untested-place : i % s.interval ≡ i - first
  untested-place = place-behind s first i are.aligned are.after (omega arith)

  keeps_by : (count : Option ℕ) → keeps_limit s count limit end ≡ true → keeps_limit s count limit (i + z) ≡ true
  keeps_by None keeps =
      let fewer : (i + z) * s.block_size ≤ end * s.block_size = mul-le-mul_right s.block_size are.within in
      le-leb ((i + z) * s.block_size) limit (omega (arith, leb-true (end * s.block_size) limit keeps))
  keeps_by (Some n) keeps = refl

  -- they are no more than their segment has left
  pub untested-placed : z ≤ segment_left s (i % s.interval) → Ok (i + z) ≡ block_behind s count limit i z 0
  untested-placed fits = rw (le-ltb, keeps_by count are.ends.keeps)

  kept_by : (count : Option ℕ) → IsUntestedEnd s count limit first end → z ≡ kept_count s count i (i + z - i)
  kept_by None ends = omega arith
  kept_by (Some n) ends = omega arith

  pub untested-kept : z ≡ kept_count s count i (i + z - i)
  untested-kept = kept_by count are.ends

  unpadded : (pad : Bool) → (pad ≡ true → end < first + s.interval) → (pad && ((i + z) % s.interval == 0)) ≡ false
  unpadded false padded = refl
  unpadded true padded =
      let next : (i + z) % s.interval ≡ i + z - first = place-behind s first (i + z) are.aligned (omega arith) (omega (arith, padded refl)) in
      ne_eqb ((i + z) % s.interval) 0 (λ e. omega arith)

  pub untested-begins : (list : List Bool) (b : ℕ) → b ≡ begin_of s list (i + z) b
  untested-begins list b = rw (unpadded s.pad are.ends.unpadded)

-- a segment has room for one block
pub one_fits : (s : Settings) (i : ℕ) → IsAllowed s → 1 ≤ segment_left s (i % s.interval)
one_fits s i allowed = omega (arith, mod-lt i (interval-positive s allowed))

-- a reading has come to z blocks that need no test, and the first of which isn't the first of its
-- interval
module _ {s : Settings} {wanted : Wanted} {end i : ℕ} {old : Cursor} {samples : List ℤ} (z : ℕ) (allowed : IsAllowed s)
    (here : IsUntestedAt s wanted end i old samples) (some : 1 ≤ z) (within : i + z ≤ end) (one : has_one (bits_at old) ≡ true) where
  pub untested-here : AreUntested s wanted.count wanted.limit wanted.first end i z old
  untested-here = record {
    allowed = allowed;
    aligned = here.aligned;
    after = omega arith;
    ends = here.untested;
    some = some;
    within = within;
    one = one;
  }

  pub wanted_there : is_wanted s wanted.count old.list i old.pos ≡ true
  wanted_there = wanted_here untested-here

  due : false ≡ is_reference_block s (i % s.interval)
  due = sym (and_right s.preprocess (i % s.interval == 0) (ne_eqb (i % s.interval) 0 (λ e. omega (arith, untested-place untested-here))))

  -- a coded data set of these blocks was read there
  module _ (new : Cursor) (cds : Cds) (len : RunLen) (len_is : len ≡ read_len cds) (read : (c : CodedDataSet) × IsReadAs s false old new c cds)
      (count_is : run_count s (i % s.interval) len ≡ z) (fits : z ≤ segment_left s (i % s.interval)) where
    placed : Ok (i + z) ≡ block_behind s wanted.count wanted.limit i (run_count s (i % s.interval) len) 0
    placed = rw count_is (untested-placed untested-here fits)

    pub next-there : IsNextCds s (i - wanted.first) samples z cds
    next-there =
        next-cds old new allowed here.reached wanted_there due len_is read 0 (i + z) placed z (i - wanted.first) here.aligned refl (untested-kept untested-here)

    pub place-next : (more : List ℤ) → FillsNext s samples more (cds_front s z cds) → IsUntestedAt s wanted end (i + z) new more
    place-next more fills = record {
      reached = reached-next old new allowed here.reached wanted_there due len_is read 0 (i + z) placed z more new.list new.pos (untested-kept untested-here)
          fills refl (untested-begins untested-here new.list new.pos);
      aligned = here.aligned;
      behind = omega arith;
      untested = here.untested;
    }

-- the samples of a single block are written after those before it
single-fills : (s : Settings) (all part : List ℤ) (values : List ℕ) (p : ℤ) (at k n : ℕ) → IsAllowed s
    → IsNextBlock s (take at all) (block_of_values None values)
    → p ≡ last_sample (take at all) → n ≡ at + k → at + k ≤ length all → length part ≡ k → Unmaps s p values [] part
    → FillsNext s (take at all) (take n (put_mid at k all part)) (block_of_values None values ∷ [])
single-fills s all part values p at k n allowed next previous sum within len unmaps =
    fills_block_single s (take at all) (take n (put_mid at k all part)) (block_of_values None values) p values allowed next refl previous refl
    (rw (take-put_mid at k all part n (omega arith) (omega arith)) (unmaps-behind s p values (take at all) part unmaps))

pub one_single : (s : Settings) (place : ℕ) (old new : Cursor) (all part : List ℤ) (values : List ℕ) (p : ℤ) (at k n : ℕ) → IsAllowed s
    → IsReadSingle s old new None values → has_one (bits_at old) ≡ true → new.list ≡ old.list → AllByRecursion (IsHeld s) (take at all)
    → p ≡ last_sample (take at all) → n ≡ at + k → at + k ≤ length all → length part ≡ k → Unmaps s p values [] part
    → ReadsBlocks s place 1 old (take at all) new (take n (put_mid at k all part))
one_single s place old new all part values p at k n allowed read one same held previous sum within len unmaps = record {
  list = same;
  held =
      rw (take-put_mid at k all part n (omega arith) (omega arith)) (all-append (IsHeld s) (take at all) part held (rw unmaps.appended unmaps.held));
  leads = λ wanted end i there some here.
      let single : Cds = Single (block_of_values None values) in
      let before : i + 1 ≤ end = omega arith in
      place-next 1 allowed here (omega arith) before one new single (Blocks 1) refl (read.set, read.read) refl
      (one_fits s i allowed) (take n (put_mid at k all part))
      (single-fills s all part values p at k n allowed
      (next-there 1 allowed here (omega arith) before one new single (Blocks 1) refl (read.set, read.read) refl
      (one_fits s i allowed)) previous sum within len unmaps);
}

-- ---- several blocks

pub none_read : (s : Settings) (place : ℕ) (cursor : Cursor) (samples : List ℤ) → AllByRecursion (IsHeld s) samples
    → ReadsBlocks s place 0 cursor samples cursor samples
none_read s place cursor samples held = record {
  list = refl;
  held = held;
  leads = λ wanted end i there some here.
      let same : i ≡ i + 0 = omega arith in rw same at here;
}

pub more_read : (s : Settings) (place n m : ℕ) (old mid new : Cursor) (samples front more : List ℤ) → ReadsBlocks s place n old samples mid front
    → ReadsBlocks s (place + n) m mid front new more → ReadsBlocks s place (n + m) old samples new more
more_read s place n m old mid new samples front more first second = record {
  list = second.list ∙ first.list;
  held = second.held;
  leads = λ wanted end i there some here.
      let last : i + n + m ≡ i + (n + m) = omega arith in
      rw last at (second.leads wanted end (i + n) (omega arith) (omega arith) (first.leads wanted end i there (omega arith) here));
}

-- the samples before the places that were added
front_of_extended : (items more extended all : List ℤ) (b : Bool) (from : ℕ) → extended ≡ (if b then items ++ more else items) → all ≡ extended
    → from ≡ length items → take from all ≡ items
front_of_extended items more extended all true from is same place = rw (same, is, place) (take-append_seam items more)
front_of_extended items more extended all false from is same place = rw (same, is) (take_all from items (omega arith))

-- blocks were read into places that were added after the samples; only filled places are kept
reads_kept : (s : Settings) (p n j from : ℕ) (old new : Cursor) (items more extended all filled kept : List ℤ) (b : Bool)
    → extended ≡ (if b then items ++ more else items) → all ≡ extended → from ≡ length items → j ≡ s.block_size → kept ≡ take (from + n * j) filled
    → ReadsBlocks s p n old (take from all) new (take (from + n * s.block_size) filled) → ReadsBlocks s p n old items new kept
reads_kept s p n j from old new items more extended all filled kept b is same place size cut read =
    rw (← (front_of_extended items more extended all b from), cut, size) read

-- ---- how many samples

pub few_places : (blocks size j : ℕ) → size ≡ j → j ≤ 64 → blocks ≤ 2 + 120 / j → blocks * size ≤ 256
few_places blocks size j is small few = grind arith

-- what is left has room for its blocks
pub blocks_fit : (from at count most size all : ℕ) → at ≡ from + count * size → count ≤ most → from + most * size ≤ all → at + (most - count) * size ≤ all
blocks_fit from at count most size all is within room = grind arith

pub blocks_more : (from at count read size j : ℕ) → at ≡ from + count * size → j ≡ size → at + read * j ≡ from + (count + read) * size
blocks_more from at count read size j is same = grind arith

pub len-joined : (old mid new block next read size : ℕ) → block ≤ next → mid ≤ old + (next - block) * size → new ≤ mid + read * size
    → new ≤ old + (next + read - block) * size
len-joined old mid new block next read size forward front more = grind arith

-- a capacity too small for the next blocks is too small for all up to the end
pub len-lacking : (old mid block next end asked size j capacity grown : ℕ) → size ≡ j → block ≤ next → mid ≤ old + (next - block) * j
    → next + asked ≤ end → capacity ≤ grown → grown < mid + asked * size → capacity < old + (end - block) * j
len-lacking old mid block next end asked size j capacity grown is forward front within more full =
    let all : (next - block + asked) * j ≤ (end - block) * j = mul-le-mul_right j (omega arith) in
    grind arith

-- a list that isn't empty has a last item
last-of : {X : Type 0} (x : X) (xs : List X) → (front : List X) × (last : X) × (x ∷ xs ≡ front ++ (last ∷ []))
last-of x [] = ([], x, refl)
last-of x (y ∷ ys) = let rest = last-of y ys in (x ∷ rest.0, rest.1, rw rest.2)

-- a reading that has come past a block was not refused at its first coded data set
pub behind-one : (s : Settings) (count : Option ℕ) (limit : ℕ) (bits : List Bool) (first start : ℕ) (sets : List CodedDataSet) (i b : ℕ)
    → LeadsTo s count limit bits first start sets i b → first < i → (h : LeadsBehindOne s count limit bits first start) × (h.block ≡ i)
behind-one s count limit bits first start [] i b leads after = absurd (omega arith)
behind-one s count limit bits first start (c ∷ sets) i b leads after =
    let last = last-of c sets in
    (record { sets = last.0; last = last.1; block = i; bit = b; leads = rw (← last.2) leads }, refl)

-- there is no room for the samples of the next block
pub lacks_room : (s : Settings) (wanted : Wanted) (last next end : ℕ) (before old : Cursor) (samples : List ℤ) (fault : Fault) → old ≡ before
    → IsUntestedAt s wanted last next before samples → next ≤ end → fault ≡ Memory
    → RefusesUpTo s wanted.count wanted.limit old.list wanted.first wanted.start end fault
lacks_room s wanted last next end before old samples fault stays here within memory =
    let one = behind-one s wanted.count wanted.limit before.list wanted.first wanted.start here.reached.sets next before.pos here.reached.leads here.behind in
    rw (stays, memory) (no_room one.0 (omega arith))

-- so a reading goes n blocks further, to a block that needs no test either
pub reads_further : (s : Settings) (wanted : Wanted) (last next n j from : ℕ) (before old new : Cursor) (items more extended all filled kept : List ℤ)
    (b : Bool) → extended ≡ (if b then items ++ more else items) → all ≡ extended → from ≡ length items → j ≡ s.block_size
    → kept ≡ take (from + n * j) filled
    → ReadsBlocks s (next - wanted.first) n old (take from all) new (take (from + n * s.block_size) filled) → old ≡ before
    → IsUntestedAt s wanted last next before items → n ≤ last - next
    → ReadsBlocks s (next - wanted.first) n old items new kept × IsUntestedAt s wanted last (next + n) new kept
reads_further s wanted last next n j from before old new items more extended all filled kept b is same place size cut read stays here few =
    let whole = reads_kept s (next - wanted.first) n j from old new items more extended all filled kept b is same place size cut read in (
      whole,
      whole.leads wanted last next (omega arith) few (rw stays here),
    )
