-- A coded data set that is wanted and was found: the block after it, or its fault.
use Rattle.std.proofs.Common.{◌≡◌, ◌+◌, ◌*◌, ◌%◌, ◌<◌, ◌≤◌, ◌∷◌, ◌++◌, if◌then◌else◌}
use Rattle.std.proofs.Common.{ℕ, Bool, true, false, Option, Some, None, List, [], refl, sym, subst, arith, Ok, Err, IfSome, nat_lt}
use Rattle.std.proofs.Math.Nat.{mod-lt, le-mul_of_pos_right}
use Rattle.std.proofs.lemmas.Grind.{div_ceil_times}
use Rattle.std.proofs.lemmas.Bool.{le-leb, lt-leb, leb-true, ltb-true, ltb-false}
use Rattle.std.specs.Int.{div_ceil}
use Rattle.aec_params.specs.declared.settings.Settings.{Settings}
use Rattle.aec_params.specs.declared.fault.Fault.{Fault}
use Rattle.aec_params.specs.declared.fault.Fault.TheVariants.{RunTooLong, TooManySamples}
use Rattle.aec_params.specs.Params.{IsAllowed}
use Rattle.aec_params.specs.CodedDataSets.{Body, uncompressed_values, value_pairs, split_values, zero_blocks, CodedDataSet}
use Rattle.aec_params.specs.Places.{segment_left, body_blocks, block_count, is_reference_block, IsLawfulAt}
use Rattle.aec_params.specs.Reading.{next_block, next_begin, begin_of, is_wanted, keeps_limit, LeadsTo}
use Rattle.aec_params.specs.Faults.{IsNotRead, IsWrongAt, not_read, too_long, too_many}
use Rattle.aec_params.proofs.SettingLaws.{block_size-positive, block_size-most, interval-positive}
use Rattle.aec_params.specs.Limits.{most_blocks, most_samples}
use Rattle.aec_bits.specs.BitReader.{Cursor}
use Rattle.aec_block.specs.declared.cds.RunLen.{RunLen}
use Rattle.aec_block.specs.SkipCds.{body_len, IsSkippedAs}
use Rattle.aec_interval.specs.NextSet.{run_count, block_behind, blocks_before_end}
use Rattle.aec_interval.specs.Steps.{ComesNext}
use Rattle.aec_interval.specs.Skipping.{IsLedTo, IsFaultBefore}
use Rattle.aec_interval.proofs.PlaceLemmas.{LeadsTo-append}
use Rattle.aec_interval.proofs.DecodeLemmas.{run_count-run_len_of}

-- whether block i needs a reference depends on its place in the interval
pub due_there : (s : Settings) (is_reference : Bool) (place i : ℕ) → is_reference ≡ is_reference_block s place → place ≡ i % s.interval
    → is_reference ≡ is_reference_block s (i % s.interval)
due_there s is_reference place i at_place is_place = rw (at_place, is_place)

-- ---- the block after it, or why there is none

-- z blocks are allowed from block i on, and block `next` comes after them
pub record MayStand (s : Settings) (count : Option ℕ) (limit i z next : ℕ) : Type 0 where
  pub within : z ≤ segment_left s (i % s.interval)
  pub keeps : keeps_limit s count limit (i + z) ≡ true
  pub next_is : next ≡ i + z

pub may_stand : (s : Settings) (count : Option ℕ) (limit i z bit next : ℕ) → Ok next ≡ block_behind s count limit i z bit
    → MayStand s count limit i z next
may_stand s count limit i z bit next is = by_place (nat_lt (segment_left s (i % s.interval)) z) refl is
  where
    by_limit : (b : Bool) → z ≤ segment_left s (i % s.interval) → keeps_limit s count limit (i + z) ≡ b
        → Ok next ≡ (if b then Ok (i + z) else Err (TooManySamples limit)) → MayStand s count limit i z next
    by_limit true within keeps is = record { within = within; keeps = keeps; next_is = cc }
    by_limit false within keeps is = absurd (cc)

    by_place : (b : Bool) → nat_lt (segment_left s (i % s.interval)) z ≡ b
        → Ok next ≡ (if b then Err (RunTooLong bit) else (if keeps_limit s count limit (i + z) then Ok (i + z) else Err (TooManySamples limit)))
        → MayStand s count limit i z next
    by_place true past is = absurd (cc)
    by_place false within is =
        by_limit (keeps_limit s count limit (i + z)) (ltb-false (segment_left s (i % s.interval)) z within) refl is

-- what holds of both refusals holds of the one that is returned
pub may_not_stand : (s : Settings) (count : Option ℕ) (limit i z bit : ℕ) (fault : Fault) (P : Fault → Type 0)
    → Err fault ≡ block_behind s count limit i z bit → (segment_left s (i % s.interval) < z → P (RunTooLong bit))
    → (z ≤ segment_left s (i % s.interval) → keeps_limit s count limit (i + z) ≡ false → P (TooManySamples limit)) → P fault
may_not_stand s count limit i z bit fault P is long many = by_place (nat_lt (segment_left s (i % s.interval)) z) refl is
  where
    by_limit : (b : Bool) → z ≤ segment_left s (i % s.interval) → keeps_limit s count limit (i + z) ≡ b
        → Err fault ≡ (if b then Ok (i + z) else Err (TooManySamples limit)) → P fault
    by_limit true within keeps is = absurd (cc)
    by_limit false within keeps is =
        let same : TooManySamples limit ≡ fault = cc in rw same at (many within keeps)

    by_place : (b : Bool) → nat_lt (segment_left s (i % s.interval)) z ≡ b
        → Err fault ≡ (if b then Err (RunTooLong bit) else (if keeps_limit s count limit (i + z) then Ok (i + z) else Err (TooManySamples limit)))
        → P fault
    by_place true past is =
        let same : RunTooLong bit ≡ fault = cc in rw same at (long (ltb-true (segment_left s (i % s.interval)) z past))
    by_place false within is =
        by_limit (keeps_limit s count limit (i + z)) (ltb-false (segment_left s (i % s.interval)) z within) refl is

-- ---- a coded data set that was found

pub run_count-body_len : (s : Settings) (p : ℕ) (body : Body) → run_count s p (body_len body) ≡ body_blocks s p body
run_count-body_len s p (uncompressed_values values) = refl
run_count-body_len s p (value_pairs members) = refl
run_count-body_len s p (split_values k values) = refl
run_count-body_len s p (zero_blocks m) = run_count-run_len_of s p m

count-some : (s : Settings) (p : ℕ) (c : CodedDataSet) → p < s.interval → 1 ≤ block_count s p c
count-some s p c within = grind arith

-- lawful coded data sets lead from block `first` to block i, where another is wanted
module _ {s : Settings} {count : Option ℕ} {limit first start : ℕ} (old new : Cursor) {i : ℕ} (allowed : IsAllowed s)
    (led : IsLedTo s count limit old.list first start i old.pos) (wanted : is_wanted s count old.list i old.pos ≡ true) where
  wrong_here : (fault : Fault) → IsWrongAt s count limit old.list i old.pos fault
      → IsFaultBefore s count limit old.list first start (i + blocks_before_end s i) fault
  wrong_here fault wrong = record {
    wrong = record { sets = led.sets; block = i; bit = old.pos; leads = led.leads; wanted = wanted; wrong = wrong };
    before = omega (arith, mod-lt i (interval-positive s allowed));
  }

  -- no coded data set is found there
  pub unread-wrong : (due : Bool) (fault : Fault) → due ≡ is_reference_block s (i % s.interval) → IsNotRead s due old.list old.pos fault
      → IsFaultBefore s count limit old.list first start (i + blocks_before_end s i) fault
  unread-wrong due fault due_is none = wrong_here fault (not_read fault (rw due_is at none))

  -- a coded data set is found there
  module _ {due : Bool} {len : RunLen} (due_is : due ≡ is_reference_block s (i % s.interval))
      (found_there : (c : CodedDataSet) × IsSkippedAs s due old new c len) where
    abbrev pub c : CodedDataSet
    c = found_there.0

    -- how many blocks it stands for
    abbrev pub blocks : ℕ
    blocks = run_count s (i % s.interval) len

    pub found : IsSkippedAs s (is_reference_block s (i % s.interval)) old new c len
    found = rw due_is at found_there.1

    pub blocks-is : blocks ≡ block_count s (i % s.interval) c
    blocks-is = simp (found.told, run_count-body_len)

    pub lawful : blocks ≤ segment_left s (i % s.interval) → IsLawfulAt s (i % s.interval) c
    lawful within = record {
      shape = found.read.set.shape;
      small = found.read.small;
      within = le-leb (block_count s (i % s.interval) c) (segment_left s (i % s.interval)) (omega (arith, blocks-is));
    }

    pub keeps-is : (b : Bool) → keeps_limit s count limit (i + blocks) ≡ b → keeps_limit s count limit (next_block s i c) ≡ b
    keeps-is b is = rw (← blocks-is) is

    pub unplaced-wrong : (bit : ℕ) (fault : Fault) → bit ≡ old.pos → Err fault ≡ block_behind s count limit i blocks bit
        → IsFaultBefore s count limit old.list first start (i + blocks_before_end s i) fault
    unplaced-wrong bit fault at is =
        may_not_stand s count limit i blocks bit fault (IsFaultBefore s count limit old.list first start (i + blocks_before_end s i)) is
        (λ past. subst (λ b. IsFaultBefore s count limit old.list first start (i + blocks_before_end s i) (RunTooLong b)) (sym at)
        (wrong_here (RunTooLong old.pos) (too_long c found.read.set found.read.small
        (lt-leb (block_count s (i % s.interval) c) (segment_left s (i % s.interval)) (omega (arith, blocks-is))))))
        (λ within many. wrong_here (TooManySamples limit) (too_many c found.read.set (lawful within) (keeps-is false many)))

    pub blocks-some : 1 ≤ blocks
    blocks-some = omega (arith, blocks-is, count-some s (i % s.interval) c (mod-lt i (interval-positive s allowed)))

    pub same_list : new.list ≡ old.list
    same_list = rw found.read.behind

    -- the block after it
    module _ (bit next : ℕ) (placed : Ok next ≡ block_behind s count limit i blocks bit) where
      pub stand : MayStand s count limit i blocks next
      stand = may_stand s count limit i blocks bit next placed

      pub next-is : next ≡ next_block s i c
      next-is = rw (stand.next_is, blocks-is)

      pub forward : i < next
      forward = omega (arith, stand.next_is, blocks-some)

      pub leads-next : LeadsTo s count limit old.list first start (led.sets ++ c ∷ []) (next_block s i c) (next_begin s old.list i old.pos c)
      leads-next =
          LeadsTo-append s count limit old.list first start led.sets i old.pos (c ∷ []) (next_block s i c) (next_begin s old.list i old.pos c) led.leads
          (wanted, found.read.set.stands, lawful stand.within, keeps-is true stand.keeps, (refl, refl))

      pub begin-is : (e : ℕ) → e ≡ begin_of s new.list next new.pos → e ≡ next_begin s old.list i old.pos c
      begin-is e begins = simp (begins, next-is, same_list, found.read.behind)

      pub led-next : (list : List Bool) (e : ℕ) → list ≡ new.list → e ≡ begin_of s new.list next new.pos
          → IsLedTo s count limit list first start next e
      led-next list e same begins = rw (same, same_list, next-is, begin-is e) (record { sets = led.sets ++ c ∷ []; leads = leads-next })

      few : limit ≤ most_samples → IfSome count (λ n. n ≤ most_samples) → next < most_blocks
      few low counted = by_count count wanted stand.keeps counted
        where
          positive : 0 < s.block_size
          positive = block_size-positive s allowed

          by_count : (count : Option ℕ) → is_wanted s count old.list i old.pos ≡ true → keeps_limit s count limit (i + blocks) ≡ true
              → IfSome count (λ n. n ≤ most_samples) → next < most_blocks
          by_count None wanted keeps counted =
              let kept = leb-true ((i + blocks) * s.block_size) limit keeps in
              omega (arith, low, stand.next_is, le-mul_of_pos_right (i + blocks) positive)
          by_count (Some n) wanted keeps counted =
              let below = ltb-true i (div_ceil n s.block_size) wanted in
              omega (
                arith,
                counted,
                stand.within,
                stand.next_is,
                div_ceil_times n s.block_size positive,
                le-mul_of_pos_right (div_ceil n s.block_size) positive,
                block_size-most s allowed,
              )

      pub comes-next : next ≤ i + blocks_before_end s i → limit ≤ most_samples → IfSome count (λ n. n ≤ most_samples) → ComesNext s i next
      comes-next within low counted = record { forward = forward; within = within; few = few low counted }
