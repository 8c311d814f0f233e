-- One interval read from its start: how far the reading comes, and how much room its samples take.
use Rattle.std.proofs.Common.{max, ◌≡◌, ℕ, Bool, true, false, Option, ◌&&◌, nat_lt, List, refl, ◌+◌, ◌-◌, ◌*◌, ◌%◌, ◌<◌, ◌≤◌, arith, Result, IfErr}
use Rattle.std.proofs.Math.Nat.{mul-le-mul_right, add-mul-mod_self_right}
use Rattle.std.proofs.lemmas.Bool.{ltb-false}
use Rattle.std.specs.Result.{IsErrAnd}
use Rattle.aec_params.specs.declared.settings.Settings.{Settings}
use Rattle.aec_params.specs.declared.fault.Fault.{Fault}
use Rattle.aec_params.specs.declared.fault.Fault.TheVariants.{Memory}
use Rattle.aec_params.specs.Params.{IsAllowed, interval_len}
use Rattle.aec_params.specs.Reading.{is_wanted}
use Rattle.aec_params.proofs.SettingLaws.{interval-positive}
use Rattle.aec_params.specs.Limits.{most_blocks}
use Rattle.aec_interval.specs.NextSet.{blocks_before_end}
use Rattle.aec_interval.specs.Steps.{IsWantedNext, ComesNext, IsGoneOver}
use Rattle.aec_interval.proofs.RefusalLemmas.{of_refusal}

-- block i is at place i - first of the interval that begins at block `first`
pub place-behind : (s : Settings) (first i : ℕ) → first % s.interval ≡ 0 → first ≤ i → i < first + s.interval → i % s.interval ≡ i - first
place-behind s first i aligned after below = grind arith

both_parts : (d e n j : ℕ) → d + e ≡ n → d * j + e * j ≡ n * j
both_parts d e n j is = grind arith

-- a capacity too small for the blocks up to the end of an interval is too small for a whole
-- interval
no_room : (s : Settings) (first i len capacity : ℕ) → first % s.interval ≡ 0 → first ≤ i → i < first + s.interval → len ≤ (i - first) * s.block_size
    → capacity < len + blocks_before_end s i * s.block_size → capacity < interval_len s
no_room s first i len capacity aligned after below few full =
    let place = place-behind s first i aligned after below in
    let both = both_parts (i - first) (s.interval - i % s.interval) s.interval s.block_size (omega arith) in
    omega arith

-- the interval of the blocks from `first` up to `end` was read or skipped up to block i at position
-- b, where more is wanted
pub record IsInside (s : Settings) (count : Option ℕ) (limit : ℕ) (bits : List Bool) (first i b end : ℕ) : Type 0 where
  pub wanted : IsWantedNext s count limit bits first i b
  pub after : first ≤ i
  pub below : i < end
  pub end_is : end ≡ first + s.interval

pub inside-begun : (s : Settings) (count : Option ℕ) (limit : ℕ) (bits : List Bool) (first b end : ℕ) → IsAllowed s → end ≡ first + s.interval
    → IsWantedNext s count limit bits first first b → IsInside s count limit bits first first b end
inside-begun s count limit bits first b end allowed end_is wanted =
    record { wanted = wanted; after = omega arith; below = omega (arith, interval-positive s allowed); end_is = end_is }

module _ (s : Settings) (count : Option ℕ) (limit : ℕ) (bits : List Bool) (first i b end : ℕ) (inside : IsInside s count limit bits first i b end) where
  before_end : i < first + s.interval
  before_end = omega arith

  pub place : i % s.interval ≡ i - first
  place = place-behind s first i inside.wanted.aligned inside.after before_end

  pub no_room-refuses : (len capacity before : ℕ) (fault : Fault) → len ≤ (i - first) * s.block_size → before ≤ capacity
      → (fault ≡ Memory → capacity < len + blocks_before_end s i * s.block_size) → fault ≡ Memory → before < interval_len s
  no_room-refuses len capacity before fault few grown full memory =
      omega (arith, no_room s first i len capacity inside.wanted.aligned inside.after before_end few (full memory))

  -- what holds of a refusal up to the end of the interval of block i holds of it up to the end of
  -- the interval that begins at block `first`
  pub by_its_end : {X : Type 0} (P : List Bool → ℕ → Fault → Type 0) (r : Result X Fault) (fault : Fault) (list : List Bool) → list ≡ bits
      → IsErrAnd r (λ e. e ≡ fault) → P list (i + blocks_before_end s i) fault → IfErr r (λ fault. P bits (first + s.interval) fault)
  by_its_end P r fault list same exit refuses =
      let ends : i + blocks_before_end s i ≡ first + s.interval = omega (arith, place, before_end) in
      of_refusal r (P bits (first + s.interval)) fault exit (rw (same, ends) at refuses)

  -- what holds of a refusal up to block `end` holds of it up to the end of the interval
  pub by_block_end : {X : Type 0} (P : List Bool → ℕ → Fault → Type 0) (r : Result X Fault) (fault : Fault) (list : List Bool) → list ≡ bits
      → IsErrAnd r (λ e. e ≡ fault) → P list end fault → IfErr r (λ fault. P bits (first + s.interval) fault)
  by_block_end P r fault list same exit refuses = of_refusal r (P bits (first + s.interval)) fault exit (rw (same, inside.end_is) at refuses)

  -- blocks that are read after a coded data set don't go past the end of the interval
  module _ (behind next : ℕ) (to : ComesNext s i behind) (after : behind ≤ next) (most : next ≤ max behind end) where
    pub comes-further : next < most_blocks → ComesNext s i next
    comes-further few = record {
      forward = omega arith;
      within = omega (arith, place, before_end, inside.end_is, to.within, most);
      few = few;
    }

    pub len-further : (old len new : ℕ) → len ≤ old + (behind - i) * s.block_size → new ≤ len + (next - behind) * s.block_size
        → new ≤ old + (next - i) * s.block_size
    len-further old len new few more = grind arith

  -- a capacity too small for the blocks up to the end of an interval is too small for a whole
  -- interval
  pub no_room-untested : (behind here len capacity before : ℕ) → ComesNext s i behind → here ≤ (i - first) * s.block_size
      → len ≤ here + (behind - i) * s.block_size → before ≤ capacity → capacity < len + (end - behind) * s.block_size → before < interval_len s
  no_room-untested behind here len capacity before to few more grown full =
      let there : (i - first) * s.block_size + (behind - i) * s.block_size ≡ (behind - first) * s.block_size =
      both_parts (i - first) (behind - i) (behind - first) s.block_size (omega arith) in
      let all : (behind - first) * s.block_size + (end - behind) * s.block_size ≡ s.interval * s.block_size =
      both_parts (behind - first) (end - behind) s.interval s.block_size (omega (arith, place, before_end, inside.end_is, to.forward, to.within)) in
      omega arith

  -- a coded data set that begins in an interval ends in it
  module _ (next : ℕ) (further : ComesNext s i next) where
    next-within : next ≤ first + s.interval
    next-within = omega (arith, place, before_end, further.within)

    -- if the loop ends though more is wanted, the interval has ended
    next-to_end : (wanted : Bool) → (nat_lt next end && wanted) ≡ false → wanted ≡ true → next ≡ first + s.interval
    next-to_end wanted done more =
        let past : end ≤ next = ltb-false next end (rw (← (and_true (nat_lt next end)), ← more) done) in
        omega (arith, next-within, inside.end_is)
      where
        and_true : (b : Bool) → (b && true) ≡ b
        and_true true = refl
        and_true false = refl

    pub gone-over : (list : List Bool) (at : ℕ) → (nat_lt next end && is_wanted s count list next at) ≡ false → IsGoneOver s count list first next at
    gone-over list at done = record {
      forward = omega arith;
      within = next-within;
      few = further.few;
      to_end = next-to_end (is_wanted s count list next at) done;
      ends = λ more.
          let last : next ≡ first + 1 * s.interval = omega (arith, next-to_end (is_wanted s count list next at) done more) in
          rw (last, add-mul-mod_self_right) inside.wanted.aligned;
    }

    pub len-within : (old new : ℕ) → old ≤ (i - first) * s.block_size → new ≤ old + (next - i) * s.block_size
        → (new ≤ (next - first) * s.block_size) × (new ≤ interval_len s)
    len-within old new few more =
        let both : (i - first) * s.block_size + (next - i) * s.block_size ≡ (next - first) * s.block_size =
        both_parts (i - first) (next - i) (next - first) s.block_size (omega arith) in
        let most : (next - first) * s.block_size ≤ s.interval * s.block_size =
        mul-le-mul_right s.block_size (omega (arith, next-within)) in
        (omega arith, omega arith)
