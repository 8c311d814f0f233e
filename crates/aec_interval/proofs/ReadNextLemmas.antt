-- One coded data set more, stated by the values that the reader has.
use Rattle.std.proofs.Common.{◌≡◌, ℕ, ◌+◌, ◌-◌, ◌%◌, ◌<◌, ◌≤◌, Bool, true, false, Option, Some, None, ℤ, List, [], length, refl, sym, ap, ◌∙◌, arith, Result, Ok, Err, IfErr, IfSome}
use Rattle.std.proofs.Math.Nat.{zero-mul, add-mul-mod_self_right, mul-le-mul_right}
use Rattle.std.proofs.lemmas.List.{take_all}
use Rattle.aec_params.specs.Params.{interval_len}
use Rattle.aec_params.specs.Blocks.{all_blocks_of}
use Rattle.std.proofs.lemmas.Bool.{ltb-true}
use Rattle.std.specs.Int.{div_ceil}
use Rattle.aec_params.specs.declared.settings.Settings.{Settings}
use Rattle.aec_params.specs.declared.fault.Fault.{Fault}
use Rattle.aec_params.specs.declared.fault.Fault.TheVariants.{Memory}
use Rattle.aec_params.specs.Params.{IsAllowed}
use Rattle.aec_params.specs.CodedDataSets.{Body, uncompressed_values, value_pairs, split_values, zero_blocks, CodedDataSet}
use Rattle.aec_params.specs.Places.{block_count, is_reference_block, cds_blocks}
use Rattle.aec_params.specs.Reading.{next_block, next_begin, begin_of, is_wanted, kept_blocks, stream_blocks, counted_samples}
use Rattle.aec_bits.specs.BitReader.{Cursor}
use Rattle.aec_block.specs.declared.cds.Cds.{Cds}
use Rattle.aec_block.specs.ReadCds.{IsReadAs}
use Rattle.aec_interval.specs.NextBlock.{FillsNext}
use Rattle.aec_interval.specs.NextSet.{run_count, block_behind, kept_count, blocks_before_end, IsNextCds, cds_front}
use Rattle.aec_interval.specs.Reached.{IsReached, IsReadFrom, LeadsBehindOne, RefusesReading, RefusesUpTo, no_room, wrong_before, count_refusal, RefusesDecoding, above_limit, unread}
use Rattle.aec_params.proofs.SettingLaws.{interval-positive}
use Rattle.std.proofs.Common.{◌*◌, ◌/◌}
use Rattle.aec_params.specs.Limits.{most_samples}
use Rattle.aec_interval.proofs.ReachedLemmas.{length-stream_blocks, AreFilled-reached, IsReached-more}
use Rattle.aec_block.specs.declared.cds.RunLen.{RunLen}
use Rattle.aec_block.specs.SkipCds.{body_len, read_len, IsSkippedAs}
use Rattle.aec_block.specs.ReadCds.{answer_of}
use Rattle.aec_interval.specs.Steps.{ComesNext}
use Rattle.aec_interval.specs.Skipping.{IsLedTo, IsFaultBefore}
use Rattle.aec_interval.proofs.DecodeLemmas.{next-answer_of, front-answer_of}
use Rattle.aec_interval.proofs.WantedSetLemmas.{MayStand, may_stand, unplaced-wrong, lawful, keeps-is, next-is, forward, comes-next as behind, leads-next, begin-is}

-- a fault before a block is a refusal up to that block
pub refuses-fault : (s : Settings) (count : Option ℕ) (limit : ℕ) (bits : List Bool) (first start end : ℕ) (fault : Fault)
    → IsFaultBefore s count limit bits first start end fault → RefusesUpTo s count limit bits first start end fault
refuses-fault s count limit bits first start end fault h = wrong_before fault h.wrong h.before

pub led-reached : (s : Settings) (count : Option ℕ) (limit : ℕ) (bits : List Bool) (first start i b : ℕ) (samples : List ℤ)
    → IsReached s count limit bits first start i b samples → IsLedTo s count limit bits first start i b
led-reached s count limit bits first start i b samples reached = record { sets = reached.sets; leads = reached.leads }

-- a coded data set stands for the same number of blocks, whether it is read or skipped
read_len-answer_of : (reference : Option ℕ) (body : Body) → read_len (answer_of reference body) ≡ body_len body
read_len-answer_of reference (uncompressed_values values) = refl
read_len-answer_of reference (value_pairs members) = refl
read_len-answer_of reference (split_values k values) = refl
read_len-answer_of reference (zero_blocks m) = refl

pub skipped-read : (s : Settings) (due : Bool) (old new : Cursor) (c : CodedDataSet) (cds : Cds) (len : RunLen) → len ≡ read_len cds
    → IsReadAs s due old new c cds → IsSkippedAs s due old new c len
skipped-read s due old new c cds len len_is read = record {
  read = record { set = read.set; small = read.small; behind = read.behind; answer = refl };
  told = rw (len_is, read.answer, read_len-answer_of);
}

-- counted from the start of an interval, block i has the same place in its interval
pub same_place : (s : Settings) (first i behind : ℕ) → 0 < s.interval → first % s.interval ≡ 0 → first ≤ i → behind ≡ i - first
    → behind % s.interval ≡ i % s.interval
same_place s first i behind positive aligned after is =
    sym (ap (λ n. n % s.interval) (omega arith) ∙ add-mul-mod_self_right behind (first / s.interval) s.interval)

-- a reading doesn't go back
pub blocks_after : (s : Settings) (count : Option ℕ) (limit : ℕ) (bits : List Bool) (first start i b : ℕ) (samples : List ℤ) → IsAllowed s
    → IsReached s count limit bits first start i b samples → first ≤ i
blocks_after s count limit bits first start i b samples allowed reached =
    omega (arith, length-stream_blocks s count limit bits first start reached.sets i b (interval-positive s allowed) reached.leads)

-- if there is no room for some blocks, there is none for more
pub more_room : (kept left capacity len j : ℕ) → kept ≤ left → capacity < len + kept * j → capacity < len + left * j
more_room kept left capacity len j most full = omega (arith, mul-le-mul_right j most)

-- a reading has come to block i, where a coded data set is wanted and was read: `due` says whether
-- it has a reference, `len` how many blocks it stands for
module _ {s : Settings} {count : Option ℕ} {limit first start : ℕ} (old new : Cursor) {i : ℕ} {samples : List ℤ} (allowed : IsAllowed s)
    (reached : IsReached s count limit old.list first start i old.pos samples) (wanted : is_wanted s count old.list i old.pos ≡ true)
    {due : Bool} {cds : Cds} {len : RunLen} (due_is : due ≡ is_reference_block s (i % s.interval)) (len_is : len ≡ read_len cds)
    (read_there : (c : CodedDataSet) × IsReadAs s due old new c cds) where
  abbrev c : CodedDataSet
  c = read_there.0

  read : IsReadAs s (is_reference_block s (i % s.interval)) old new c cds
  read = rw due_is at read_there.1

  abbrev led : IsLedTo s count limit old.list first start i old.pos
  led = record { sets = reached.sets; leads = reached.leads }

  abbrev found_there : (c : CodedDataSet) × IsSkippedAs s due old new c len
  found_there = (c, skipped-read s due old new c cds len len_is read_there.1)

  pub unplaced-refuses : (bit : ℕ) (fault : Fault) → bit ≡ old.pos → Err fault ≡ block_behind s count limit i (run_count s (i % s.interval) len) bit
      → RefusesUpTo s count limit old.list first start (i + blocks_before_end s i) fault
  unplaced-refuses bit fault at is =
      refuses-fault s count limit old.list first start (i + blocks_before_end s i) fault
      (unplaced-wrong old new allowed led wanted due_is found_there bit fault at is)

  -- it is allowed there, and block `next` comes after it
  module _ (bit next : ℕ) (placed : Ok next ≡ block_behind s count limit i (run_count s (i % s.interval) len) bit) where
    stand : MayStand s count limit i (run_count s (i % s.interval) len) next
    stand = may_stand s count limit i (run_count s (i % s.interval) len) bit next placed

    count-is : next - i ≡ block_count s (i % s.interval) c
    count-is = grind arith

    forward-next : i < next
    forward-next = forward old new allowed led wanted due_is found_there bit next placed

    pub comes-next : next ≤ i + blocks_before_end s i → limit ≤ most_samples → IfSome count (λ n. n ≤ most_samples) → ComesNext s i next
    comes-next = behind old new allowed led wanted due_is found_there bit next placed

    pub memory-refuses : (fault : Fault) → next ≤ i + blocks_before_end s i → fault ≡ Memory
        → RefusesUpTo s count limit old.list first start (i + blocks_before_end s i) fault
    memory-refuses fault within memory =
        let behind_one : LeadsBehindOne s count limit old.list first start = record {
          sets = reached.sets;
          last = c;
          block = next_block s i c;
          bit = next_begin s old.list i old.pos c;
          leads = leads-next old new allowed led wanted due_is found_there bit next placed;
        } in
        rw memory (no_room behind_one (omega (arith, next-is old new allowed led wanted due_is found_there bit next placed)))

    pub kept-bounds : (kept : ℕ) → kept ≡ kept_count s count i (next - i) → (1 ≤ kept) × (kept ≤ next - i)
    kept-bounds kept is = by_count count wanted is
      where
        by_count : (count : Option ℕ) → is_wanted s count old.list i old.pos ≡ true → kept ≡ kept_count s count i (next - i)
            → (1 ≤ kept) × (kept ≤ next - i)
        by_count None wanted is = (omega (arith, forward-next), omega arith)
        by_count (Some n) wanted is =
            let below = ltb-true i (div_ceil n s.block_size) wanted in (omega (arith, forward-next, below), omega arith)

    -- what it stands for can come after the blocks that were read
    pub next-cds : (kept behind : ℕ) → first % s.interval ≡ 0 → behind ≡ i - first → kept ≡ kept_count s count i (next - i)
        → IsNextCds s behind samples kept cds
    next-cds kept behind aligned behind_is is =
        let bounds = kept-bounds kept is in
        let after : first ≤ i = blocks_after s count limit old.list first start i old.pos samples allowed reached in
        let place : behind % s.interval ≡ i % s.interval = same_place s first i behind (interval-positive s allowed) aligned after behind_is in
        let filled = AreFilled-reached allowed reached wanted in
        rw read.answer (next-answer_of s behind samples kept c.reference c.body allowed (rw behind_is filled) (rw place read.set.shape) read.small
        bounds.0 (omega (arith, bounds.1, stand.within, stand.next_is)))

    pub reached-next : (kept : ℕ) (more : List ℤ) (list : List Bool) (e : ℕ) → kept ≡ kept_count s count i (next - i)
        → FillsNext s samples more (cds_front s kept cds) → list ≡ new.list → e ≡ begin_of s new.list next new.pos
        → IsReached s count limit list first start next e more
    reached-next kept more list e is fills same begins =
        let front : cds_front s kept cds ≡ kept_blocks s count i (cds_blocks s (i % s.interval) c) =
        rw (is, count-is) (cc (
          read.answer,
          front-answer_of s count old.list i old.pos c.reference c.body (omega (arith, count-is, forward-next)) wanted,
        )) in
        let whole = IsReached-more s count limit old.list first start i old.pos samples more c allowed reached wanted read.set.stands
        (lawful old new allowed led wanted due_is found_there stand.within) (keeps-is old new allowed led wanted due_is found_there true stand.keeps)
        (rw front at fills) in
        rw (
          same,
          read.behind,
          next-is old new allowed led wanted due_is found_there bit next,
          begin-is old new allowed led wanted due_is found_there bit next placed e,
        ) whole

pub few-wanted : (s : Settings) (count : Option ℕ) (bits : List Bool) (i b : ℕ) → is_wanted s count bits i b ≡ true
    → IfSome count (λ n. i ≤ div_ceil n s.block_size)
few-wanted s None bits i b wanted = tt
few-wanted s (Some n) bits i b wanted = let below = ltb-true i (div_ceil n s.block_size) wanted in omega arith

-- if nothing more is wanted, the samples so far are what is read
pub reading-done : (s : Settings) (count : Option ℕ) (limit : ℕ) (bits : List Bool) (start i b : ℕ) (samples : List ℤ)
    → IsReached s count limit bits 0 start i b samples → is_wanted s count bits i b ≡ false
    → IsReadFrom s count limit bits start (counted_samples count samples)
reading-done s count limit bits start i b samples reached done = record {
  blocks = kept_blocks s count 0 (stream_blocks s 0 reached.sets);
  read = record { sets = reached.sets; end_block = i; end_bit = b; leads = reached.leads; done = done; kept = refl };
  all_samples = samples;
  filled = reached.filled;
  counted = refl;
}

-- at the start of a reading there are no samples
pub reached-start : (s : Settings) (count : Option ℕ) (limit : ℕ) (bits : List Bool) (first start b : ℕ) (samples : List ℤ) → b ≡ start → samples ≡ []
    → IsReached s count limit bits first start first b samples
reached-start s count limit bits first start b samples begins none =
    rw (begins, none) (record {
      sets = [];
      leads = (refl, refl);
      filled = record {
        held = tt;
        whole = sym (no_blocks count);
        mapped = nothing ∙ sym (nothing_kept count);
      };
    })
  where
    no_pieces : div_ceil 0 (interval_len s) ≡ 0
    no_pieces = omega arith

    nothing : all_blocks_of s [] ≡ []
    nothing = rw no_pieces

    nothing_kept : (count : Option ℕ) → kept_blocks s count first [] ≡ []
    nothing_kept None = refl
    nothing_kept (Some n) = take_all (div_ceil n s.block_size - first) [] (omega arith)

    no_blocks : (count : Option ℕ) → length (kept_blocks s count first []) * s.block_size ≡ 0
    no_blocks count = rw (nothing_kept, zero-mul)

pub counting-refuses : {X : Type 0} (r : Result X Fault) (fault : Fault) (s : Settings) (count : Option ℕ) (limit : ℕ) (bits : List Bool)
    → r ≡ Err fault → Some fault ≡ count_refusal limit count → IfErr r (λ fault. RefusesDecoding s count limit bits fault)
counting-refuses {X} r fault s count limit bits is above = rw is (above_limit fault (sym above))

-- a refusal to read a list is a refusal to read equal bits
pub reading-refuses : (s : Settings) (count : Option ℕ) (limit : ℕ) (bits list : List Bool) (first start : ℕ) (fault : Fault)
    → list ≡ bits → RefusesReading s count limit list first start fault → RefusesReading s count limit bits first start fault
reading-refuses s count limit bits list first start fault same refuses = rw same at refuses

pub decoding-refuses : {X : Type 0} (r : Result X Fault) (s : Settings) (count : Option ℕ) (limit : ℕ) (bits : List Bool) → None ≡ count_refusal limit count
    → IfErr r (λ fault. RefusesReading s count limit bits 0 0 fault) → IfErr r (λ fault. RefusesDecoding s count limit bits fault)
decoding-refuses (Ok x) s count limit bits within refuses = tt
decoding-refuses (Err fault) s count limit bits within refuses = unread fault (sym within) refuses
