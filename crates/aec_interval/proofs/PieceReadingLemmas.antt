-- Steps of a reading, one after the other, are the whole reading; the refusal of a step is a
-- refusal of the whole.
use Rattle.std.proofs.Common.{◌≡◌, ℕ, ◌-◌, ◌*◌, ◌/◌, ◌%◌, ◌<◌, ◌≤◌, Bool, true, false, Option, Some, None, ℤ, List, [], ◌∷◌, ◌++◌, length, take, drop, refl, sym, ap, ◌∙◌, arith, append-nil, append_assoc, ⊎_elim}
use Rattle.std.specs.Int.{div_ceil}
use Rattle.std.specs.List.{AllByRecursion}
use Rattle.std.proofs.Math.Nat.{mul-le-mul_right}
use Rattle.std.proofs.lemmas.Nat.{div-add-mod'}
use Rattle.std.proofs.lemmas.Bool.{ltb-true, cases_Bool}
use Rattle.std.proofs.lemmas.List.{length-take, length-append, take_all, take_at, take-append-drop}
use Rattle.std.proofs.lemmas.List.Concat.{flat_map-append}
use Rattle.aec_params.specs.declared.settings.Settings.{Settings}
use Rattle.aec_params.specs.declared.fault.Fault.{Fault}
use Rattle.aec_params.specs.declared.fault.Fault.TheVariants.{Memory}
use Rattle.aec_params.specs.Params.{IsAllowed, IsHeld, interval_len}
use Rattle.aec_params.specs.CodedDataSets.{CodedDataSet}
use Rattle.aec_params.specs.Blocks.{Block, all_blocks_of}
use Rattle.aec_params.specs.Reading.{is_wanted, LeadsTo, stream_blocks, kept_blocks, IsBlockReading, FillBlocks, counted_samples, IsReading}
use Rattle.aec_params.specs.Faults.{IsFault}
use Rattle.aec_params.proofs.ReadingLaws.{FillBlocks-one_to_one}
use Rattle.aec_params.proofs.SettingLaws.{block_size-positive, interval-positive}
use Rattle.aec_params.proofs.SampleLaws.{interval_len-positive}
use Rattle.aec_bits.proofs.CodeLaws.{pieces_of-append}
use Rattle.aec_interval.specs.Reached.{RefusesReading, no_memory, faulty}
use Rattle.aec_interval.specs.Pieces.{Place, place_at, is_wanted_at, counted_from, ReadsPiece, ReadsInterval, ReadsIntervals, HasRead, RefusesAt}
use Rattle.aec_interval.specs.PieceLaws.{AllStepsAreTheReading}
use Rattle.aec_interval.proofs.CuttingLemmas.{div_ceil-times}
use Rattle.aec_interval.proofs.BlockLemmas.{all-append, all_left}
use Rattle.aec_interval.proofs.PlaceLemmas.{LeadsTo-append}
use Rattle.aec_interval.proofs.RoundTripLemmas.{length-all_blocks_of}
use Rattle.aec_interval.proofs.WalkLemmas.{same_blocks, no_reading_and_fault}
use Rattle.aec_interval.proofs.OutcomeLemmas.{outcome}
use Rattle.aec_interval.proofs.ReadingLemmas.{bits_are_read_in_one_way}
use Rattle.aec_interval.proofs.ReachedLemmas.{length-stream_blocks, take-append-past, kept_blocks-wanted, kept_blocks-joined}
use Rattle.aec_interval.proofs.ReadNextLemmas.{reached-start}
use Rattle.aec_interval.proofs.UpToLemmas.{up_to-reading}

-- ---- whole intervals of samples

-- the samples of i blocks fill whole intervals, if i is a multiple of r
pub whole_intervals : (s : Settings) (i len : ℕ) → i % s.interval ≡ 0 → len ≡ i * s.block_size → len ≡ i / s.interval * interval_len s
whole_intervals s i len begins is =
    let whole : i ≡ i / s.interval * s.interval = omega (arith, div-add-mod' i s.interval) in omega (arith, rw whole at is)

pub all_blocks_of-append : (s : Settings) (k : ℕ) (front back : List ℤ) → IsAllowed s → length front ≡ k * interval_len s
    → all_blocks_of s (front ++ back) ≡ all_blocks_of s front ++ all_blocks_of s back
all_blocks_of-append s k front back a whole = rw (pieces_of-append (interval_len s) k front back (interval_len-positive s a), flat_map-append)

pub FillBlocks-append : (s : Settings) (k : ℕ) (front back : List ℤ) (bs cs : List Block) → IsAllowed s → length front ≡ k * interval_len s
    → FillBlocks s front bs → FillBlocks s back cs → FillBlocks s (front ++ back) (bs ++ cs)
FillBlocks-append s k front back bs cs a whole first second = record {
  held = all-append (IsHeld s) front back first.held second.held;
  whole = rw (length-append, length-append) (omega (arith, first.whole, second.whole));
  mapped = rw (all_blocks_of-append s k, first.mapped, second.mapped);
}

-- samples that fill blocks, cut where an interval begins
pub FillBlocks-front : (s : Settings) (i : ℕ) (samples : List ℤ) (bs cs : List Block) → IsAllowed s → i % s.interval ≡ 0 → length bs ≡ i
    → FillBlocks s samples (bs ++ cs) → FillBlocks s (take (i * s.block_size) samples) bs
FillBlocks-front s i samples bs cs a begins count filled = record {
  held = all_left (IsHeld s) front back (rw cut filled.held);
  whole = rw (len, count);
  mapped = rw (← (take_at (all_blocks_of s front) (all_blocks_of s back) i blocks), together, take_at);
}
  where
    front : List ℤ
    front = take (i * s.block_size) samples

    back : List ℤ
    back = drop (i * s.block_size) samples

    cut : front ++ back ≡ samples
    cut = take-append-drop (i * s.block_size) samples

    len : length front ≡ i * s.block_size
    len = grind (arith, length-append, length-take)

    blocks : length (all_blocks_of s front) ≡ i
    blocks = rw (length-all_blocks_of, len, div_ceil-times i s.block_size (block_size-positive s a))

    together : all_blocks_of s front ++ all_blocks_of s back ≡ bs ++ cs
    together = rw (← (all_blocks_of-append s (i / s.interval) front back a (whole_intervals s i (length front) begins len)), cut) filled.mapped

-- ---- samples that are asked for

-- a block that is needed begins before the count
pub before_count : (s : Settings) (count i : ℕ) → IsAllowed s → i < div_ceil count s.block_size → i * s.block_size < count
before_count s count i a below = grind arith

counted-start : (s : Settings) (count : Option ℕ) (samples : List ℤ) → counted_from s count 0 samples ≡ counted_samples count samples
counted-start s None samples = refl
counted-start s (Some count) samples = ap (λ n. take n samples) (omega arith)

-- ---- behind coded data sets from the first bit on

module _ (s : Settings) (a : IsAllowed s) (count : Option ℕ) (limit : ℕ) (bits : List Bool) (i b : ℕ) (sets : List CodedDataSet)
    (leads : LeadsTo s count limit bits 0 0 sets i b) where
  pub blocks-before : length (stream_blocks s 0 sets) ≡ i
  blocks-before = omega (arith, length-stream_blocks s count limit bits 0 0 sets i b (interval-positive s a) leads)

  pub fault-behind : (fault : Fault) → IsFault s count limit bits i b fault → IsFault s count limit bits 0 0 fault
  fault-behind fault h = record {
    sets = sets ++ h.sets;
    block = h.block;
    bit = h.bit;
    leads = LeadsTo-append s count limit bits 0 0 sets i b h.sets h.block h.bit leads h.leads;
    wanted = h.wanted;
    wrong = h.wrong;
  }

  -- if more is wanted there, and all bits have a reading, it goes on from there
  module _ (wanted : is_wanted s count bits i b ≡ true) (samples : List ℤ) (whole : IsReading s count limit bits samples) where
    pub record IsRest : Type 0 where
      pub later : List Block
      pub read : IsBlockReading s count limit bits i b later
      pub filled : FillBlocks s whole.all_samples (stream_blocks s 0 sets ++ later)

    rest-of : (later : List Block) → IsBlockReading s count limit bits i b later → IsRest
    rest-of later h = record {
      later = later;
      read = h;
      filled = rw (same_blocks s a count limit bits 0 0 whole.blocks (stream_blocks s 0 sets ++ later) whole.read both) at whole.filled;
    }
      where
        both : IsBlockReading s count limit bits 0 0 (stream_blocks s 0 sets ++ later)
        both = record {
          sets = sets ++ h.sets;
          end_block = h.end_block;
          end_bit = h.end_bit;
          leads = LeadsTo-append s count limit bits 0 0 sets i b h.sets h.end_block h.end_bit leads h.leads;
          done = h.done;
          kept = rw (kept_blocks-joined s count limit bits 0 0 sets i b, h.kept);
        }

    pub the_rest : IsRest
    the_rest = ⊎_elim (λ r. rest-of r.0 r.1)
        (λ f. absurd (no_reading_and_fault s a count limit bits 0 0 whole.blocks f.0 whole.read (fault-behind f.0 f.1))) (outcome s a count limit bits i b)

-- ---- behind samples that were read

module _ (s : Settings) (a : IsAllowed s) (count : Option ℕ) (limit : ℕ) (bits : List Bool) (i b : ℕ) (xs : List ℤ)
    (read : HasRead (place_at s count limit bits i b) xs) where
  abbrev before : List Block
  before = stream_blocks s 0 read.sets

  before-count : length before ≡ i
  before-count = blocks-before s a count limit bits i b read.sets read.leads

  -- ---- if no more is wanted

  pub reading-of_all : is_wanted s count bits i b ≡ false → IsReading s count limit bits xs
  reading-of_all done = record {
    blocks = kept_blocks s count 0 before;
    read = record { sets = read.sets; end_block = i; end_bit = b; leads = read.leads; done = done; kept = refl };
    all_samples = read.all_samples;
    filled = read.filled;
    counted = read.counted ∙ counted-start s count read.all_samples;
  }

  -- ---- a refusal

  pub fault-of_all : (fault : Fault) → IsFault s count limit bits i b fault → IsFault s count limit bits 0 0 fault
  fault-of_all = fault-behind s a count limit bits i b read.sets read.leads

  pub refusal-of_all : (fault : Fault) → RefusesReading s count limit bits i b fault → RefusesReading s count limit bits 0 0 fault
  refusal-of_all fault (faulty f wrong) = faulty f (fault-of_all f wrong)
  refusal-of_all fault (no_memory h) = no_memory (record {
    sets = read.sets ++ h.sets;
    last = h.last;
    block = h.block;
    bit = h.bit;
    leads = rw append_assoc (LeadsTo-append s count limit bits 0 0 read.sets i b (h.sets ++ (h.last ∷ [])) h.block h.bit read.leads h.leads);
  })

  -- if all bits have a reading, only memory can be missing
  pub memory-only : (samples : List ℤ) (fault : Fault) → IsReading s count limit bits samples → RefusesReading s count limit bits i b fault → fault ≡ Memory
  memory-only samples fault whole (no_memory h) = refl
  memory-only samples fault whole (faulty f wrong) = absurd (no_reading_and_fault s a count limit bits 0 0 whole.blocks f whole.read (fault-of_all f wrong))

  -- ---- if more is wanted

  module _ (wanted : is_wanted s count bits i b ≡ true) where
    kept-before : kept_blocks s count 0 before ≡ before
    kept-before = kept_blocks-wanted s count bits 0 i b before (omega (arith, before-count)) wanted

    all_filled : FillBlocks s read.all_samples before
    all_filled = rw kept-before at read.filled

    all-len : length read.all_samples ≡ i * s.block_size
    all-len = rw (all_filled.whole, before-count)

    all-asked : (count : Option ℕ) → is_wanted s count bits i b ≡ true → counted_from s count 0 read.all_samples ≡ read.all_samples
    all-asked None wanted = refl
    all-asked (Some n) wanted =
        let below = before_count s n i a (ltb-true i (div_ceil n s.block_size) wanted) in
        take_all (n - 0 * s.block_size) read.all_samples (omega (arith, all-len))

    xs-all : xs ≡ read.all_samples
    xs-all = read.counted ∙ all-asked count wanted

    xs-filled : FillBlocks s xs before
    xs-filled = rw xs-all all_filled

    xs-len : length xs ≡ i * s.block_size
    xs-len = rw xs-all all-len

    counted-behind : (count : Option ℕ) (more : List ℤ) → is_wanted s count bits i b ≡ true
        → xs ++ counted_from s count i more ≡ counted_samples count (xs ++ more)
    counted-behind None more wanted = refl
    counted-behind (Some n) more wanted =
        let below = before_count s n i a (ltb-true i (div_ceil n s.block_size) wanted) in
        rw (take-append-past n xs more (omega (arith, xs-len)), xs-len)

    module _ (begins : i % s.interval ≡ 0) where
      pub intervals : length xs ≡ i / s.interval * interval_len s
      intervals = whole_intervals s i (length xs) begins xs-len

      pub read-more : (ys : List ℤ) (q : Place) → ReadsPiece (place_at s count limit bits i b) ys q → HasRead q (xs ++ ys)
      read-more ys q piece = rw piece.same (record {
        sets = read.sets ++ piece.sets;
        leads = LeadsTo-append s count limit bits 0 0 read.sets i b piece.sets q.block q.bit read.leads piece.leads;
        all_samples = xs ++ piece.all_samples;
        filled = rw (kept_blocks-joined s count limit bits 0 0 read.sets i b piece.sets a read.leads)
            (FillBlocks-append s (i / s.interval) xs piece.all_samples before
            (kept_blocks s count i (stream_blocks s i piece.sets)) a intervals xs-filled piece.filled);
        counted = rw (piece.counted, counted-behind, counted-start);
        same = refl;
      })

      -- the samples so far are a front of all samples
      pub rest-of_all : (samples : List ℤ) → IsReading s count limit bits samples → (ys : List ℤ) × (samples ≡ xs ++ ys)
      rest-of_all samples whole = (counted_from s count i back, samples-are)
        where
          rest : IsRest s a count limit bits i b read.sets read.leads wanted samples whole
          rest = the_rest s a count limit bits i b read.sets read.leads wanted samples whole

          front : take (i * s.block_size) whole.all_samples ≡ xs
          front = FillBlocks-one_to_one s _ xs before a
              (FillBlocks-front s i whole.all_samples before rest.later a begins before-count rest.filled) xs-filled

          back : List ℤ
          back = drop (i * s.block_size) whole.all_samples

          samples-are : samples ≡ xs ++ counted_from s count i back
          samples-are = whole.counted ∙ ap (counted_samples count) (sym (take-append-drop (i * s.block_size) whole.all_samples) ∙ ap (λ l. l ++ back) front)
              ∙ sym (counted-behind count back wanted)

-- ---- by places

-- nothing was read before the first bit
pub has_read_nothing : (s : Settings) (count : Option ℕ) (limit : ℕ) (bits : List Bool) → HasRead (place_at s count limit bits 0 0) []
has_read_nothing s count limit bits =
    let start = reached-start s count limit bits 0 0 0 [] refl refl in
    record { sets = start.sets; leads = start.leads; all_samples = []; filled = start.filled; counted = none count; same = refl }
  where
    none : (count : Option ℕ) → [] ≡ counted_from s count 0 []
    none None = refl
    none (Some n) = sym (take_all (n - 0 * s.block_size) [] (omega arith))

-- one step is a case of several
pub several-of_one : (p q : Place) (ys : List ℤ) → ReadsInterval p ys q → ReadsIntervals p ys q
several-of_one p q ys step = record { wanted = step.wanted; begins = step.begins; piece = step.piece; ahead = step.ahead }

-- several steps append their samples
pub has_read_several : (p q : Place) (xs ys : List ℤ) → IsAllowed p.settings → HasRead p xs → ReadsIntervals p ys q → HasRead q (xs ++ ys)
has_read_several p q xs ys a read steps = read-more p.settings a p.count p.limit p.bits p.block p.bit xs read steps.wanted steps.begins ys q steps.piece

-- one step appends its samples
pub has_read_more : (p q : Place) (xs ys : List ℤ) → IsAllowed p.settings → HasRead p xs → ReadsInterval p ys q → HasRead q (xs ++ ys)
has_read_more p q xs ys a read step = has_read_several p q xs ys a read (several-of_one p q ys step)

-- if no more is wanted, the samples so far are all samples
pub has_read_all : (p : Place) (xs : List ℤ) → IsAllowed p.settings → HasRead p xs → is_wanted_at p ≡ false → IsReading p.settings p.count p.limit p.bits xs
has_read_all p xs a read done = reading-of_all p.settings a p.count p.limit p.bits p.block p.bit xs read done

-- if more is wanted at the start of an interval, the samples so far fill whole intervals
pub has_read_whole : (p : Place) (xs : List ℤ) → IsAllowed p.settings → HasRead p xs → is_wanted_at p ≡ true → p.block % p.settings.interval ≡ 0
    → length xs ≡ p.block / p.settings.interval * interval_len p.settings
has_read_whole p xs a read wanted begins = intervals p.settings a p.count p.limit p.bits p.block p.bit xs read wanted begins

-- the refusal of a step is a refusal of the whole reading
pub has_read_refused : (p : Place) (xs : List ℤ) (fault : Fault) → IsAllowed p.settings → HasRead p xs → RefusesAt p fault
    → RefusesReading p.settings p.count p.limit p.bits 0 0 fault
has_read_refused p xs fault a read refuses =
    refusal-of_all p.settings a p.count p.limit p.bits p.block p.bit xs read fault (up_to-reading _ _ _ _ _ _ _ _ refuses)

-- a fault from a place on is the fault of the whole reading
pub has_read_wrong : (p : Place) (xs : List ℤ) (fault : Fault) → IsAllowed p.settings → HasRead p xs
    → IsFault p.settings p.count p.limit p.bits p.block p.bit fault → IsFault p.settings p.count p.limit p.bits 0 0 fault
has_read_wrong p xs fault a read wrong = fault-of_all p.settings a p.count p.limit p.bits p.block p.bit xs read fault wrong

-- if the bits have a reading, a step is refused only with `Memory`
pub lacks_memory_only : (p : Place) (xs samples : List ℤ) (fault : Fault) → IsAllowed p.settings → HasRead p xs
    → IsReading p.settings p.count p.limit p.bits samples
    → RefusesAt p fault → fault ≡ Memory
lacks_memory_only p xs samples fault a read whole refuses =
    memory-only p.settings a p.count p.limit p.bits p.block p.bit xs read samples fault whole (up_to-reading _ _ _ _ _ _ _ _ refuses)

-- if the bits have a reading, the samples so far are a front of its samples
pub has_read_front : (p : Place) (xs samples : List ℤ) → IsAllowed p.settings → HasRead p xs → (is_wanted_at p ≡ true → p.block % p.settings.interval ≡ 0)
    → IsReading p.settings p.count p.limit p.bits samples → (ys : List ℤ) × (samples ≡ xs ++ ys)
has_read_front p xs samples a read begins whole =
    ⊎_elim (λ wanted. rest-of_all p.settings a p.count p.limit p.bits p.block p.bit xs read wanted (begins wanted) samples whole)
    (λ done. (
      [],
      (bits_are_read_in_one_way p.settings p.count p.limit p.bits a).one_reading samples xs whole (has_read_all p xs a read done)
          ∙ sym (append-nil xs),
    )) (cases_Bool (is_wanted_at p))

-- the samples so far are at most those of the blocks before the place
pub has_read_few : (p : Place) (xs : List ℤ) → IsAllowed p.settings → HasRead p xs → length xs ≤ p.block * p.settings.block_size
has_read_few p xs a read = grind (arith, length-take, mul-le-mul_right, length-stream_blocks, interval-positive)

-- the samples of a step are samples of the settings
pub piece_is_held : (p q : Place) (xs : List ℤ) → ReadsPiece p xs q → AllByRecursion (IsHeld p.settings) xs
piece_is_held p q xs piece = rw piece.counted (asked p.count)
  where
    asked : (count : Option ℕ) → AllByRecursion (IsHeld p.settings) (counted_from p.settings count p.block piece.all_samples)
    asked None = piece.filled.held
    asked (Some n) = all_left (IsHeld p.settings) _ (drop (n - p.block * p.settings.block_size) piece.all_samples)
        (rw take-append-drop piece.filled.held)

pub steps_are_the_reading : AllStepsAreTheReading
steps_are_the_reading = record {
  begun = has_read_nothing;
  steps = λ p xs a read. record {
    more = λ ys q step. has_read_more p q xs ys a read step;
    all = has_read_all p xs a read;
    refused = λ fault. has_read_refused p xs fault a read;
    memory_only = λ samples fault. lacks_memory_only p xs samples fault a read;
    front = λ samples begins. has_read_front p xs samples a read begins;
  };
}
