-- A reading that is kept between calls: the places that it reaches, and the way to an interval.
use Rattle.std.proofs.Common.{◌≡◌, ℕ, ◌+◌, ◌-◌, ◌*◌, ◌/◌, ◌%◌, ◌<◌, ◌≤◌, Bool, true, Option, List, [], Result, Err, IfErr, ℤ, ◌++◌, length, refl, sym, ap, subst, ◌∙◌, arith}
use Rattle.std.specs.Int.{div_ceil}
use Rattle.std.proofs.Math.Nat.{add-mul, zero-mod, mul-le-mul_right}
use Rattle.std.proofs.lemmas.Nat.{div-add-mod'}
use Rattle.std.proofs.lemmas.List.{length-append}
use Rattle.aec_params.specs.declared.settings.Settings.{Settings}
use Rattle.aec_params.specs.declared.fault.Fault.{Fault}
use Rattle.aec_params.specs.Params.{IsAllowed}
use Rattle.aec_params.proofs.CountLaws.{ceil_bounds, ceil_unique}
use Rattle.aec_params.proofs.SettingLaws.{interval-positive}
use Rattle.aec_params.specs.Limits.{most_blocks, most_samples}
use Rattle.aec_interval.specs.Pieces.{Place, place_at, is_wanted_at, IsPlace, ReadsInterval}
use Rattle.aec_interval.specs.Skipping.{IsFaultAt}
use Rattle.aec_interval.proofs.PlaceLemmas.{LeadsTo-append}
use Rattle.aec_interval.proofs.PieceReadingLemmas.{has_read_nothing, has_read_several, several-of_one}
use Rattle.aec_engine.proofs.ReadTwiceLemmas.{CountsSoFar, counts_few}
use Rattle.aec_c.specs.Standing.{Standing, standing_at, place_in, HasCounted, IsStanding, IsOnWay, IsFaultOnWay}

-- ---- what was counted

pub counts_here : (p : Place) (before : ℕ) → HasCounted p before → p.block < most_blocks → CountsSoFar p p before
counts_here p before has few = record {
  samples = has.samples;
  read = has.read;
  counted = has.counted;
  same = refl;
  few = few;
}

-- at the first bit nothing was read
pub counted_none : (s : Settings) (count : Option ℕ) (limit : ℕ) (bits : List Bool) → HasCounted (place_at s count limit bits 0 0) 0
counted_none s count limit bits = record {
  samples = [];
  read = has_read_nothing s count limit bits;
  counted = refl;
}

-- after an interval its samples are counted too
pub counted_on : (p q : Place) (before : ℕ) (ys : List ℤ) → IsAllowed p.settings → HasCounted p before → ReadsInterval p ys q
    → HasCounted q (before + length ys)
counted_on p q before ys a has step = record {
  samples = has.samples ++ ys;
  read = has_read_several p q has.samples ys a has.read (several-of_one p q ys step);
  counted = length-append has.samples ys ∙ ap (λ n. n + length ys) has.counted;
}

-- ---- the way to an interval

later : (k left m : ℕ) (p : Place) (i b : ℕ) → left ≡ m + 1 → IsOnWay k left p → is_wanted_at p ≡ true → i ≤ p.block + p.settings.interval
    → (is_wanted_at (place_in p i b) ≡ true → i ≡ p.block + p.settings.interval) → IsOnWay k m (place_in p i b)
later k left m p i b one_less way wanted within to_end = record {
  begins = λ more. omega (arith, product, way.begins wanted, to_end more);
  within = omega (arith, product, way.within, within);
}
  where
    product : left * p.settings.interval ≡ m * p.settings.interval + p.settings.interval
    product = ap (λ n. n * p.settings.interval) one_less ∙ (add-mul m 1 p.settings.interval ∙ omega arith)

-- after one more interval, the way is one interval shorter
pub way_on : (k left m : ℕ) (p q : Place) (ys : List ℤ) → left ≡ m + 1 → IsOnWay k left p → ReadsInterval p ys q → IsOnWay k m q
way_on k left m p q ys one_less way step =
    subst (IsOnWay k m) (sym step.piece.same) (later k left m p q.block q.bit one_less way step.wanted step.within
    (λ more. step.to_end (ap is_wanted_at step.piece.same ∙ more)))

-- a fault in the next interval is on the way to a later interval
fault_on_way : (k left total : ℕ) (start p : Place) (fault : Fault) → 0 < left → IsOnWay k left p → CountsSoFar start p total → IsFaultAt p fault
    → IsFaultOnWay k start fault
fault_on_way k left total start p fault some way so_far at =
    subst (λ p. IsFaultOnWay k p fault) so_far.same (record {
      wrong = record {
        sets = so_far.read.sets ++ at.wrong.sets;
        block = at.wrong.block;
        bit = at.wrong.bit;
        leads = LeadsTo-append p.settings p.count p.limit p.bits 0 0 so_far.read.sets p.block p.bit at.wrong.sets at.wrong.block at.wrong.bit
            so_far.read.leads at.wrong.leads;
        wanted = at.wrong.wanted;
        wrong = at.wrong.wrong;
      };
      before = omega (arith, product, at.before, way.within);
    })
  where
    product : 1 * p.settings.interval ≤ left * p.settings.interval
    product = mul-le-mul_right p.settings.interval (omega (arith, some))

pub wrong_on_way : {X : Type 0} (r : Result X Fault) (fault other : Fault) (start p : Place) (intervals left total : ℕ) → r ≡ Err fault → fault ≡ other
    → 0 < left → ((k : ℕ) → IsOnWay k intervals start → IsOnWay k left p) → CountsSoFar start p total → IsFaultAt p other
    → IfErr r (λ fault. (k : ℕ) → IsOnWay k intervals start → IsFaultOnWay k start fault)
wrong_on_way r fault other start p intervals left total is same some way so_far at =
    rw (is, same) (λ k from. fault_on_way k left total start p other some (way k from) so_far at)

-- a reading that begins again at the first bit has read nothing
pub standing_first : (p : Place) → IsPlace p → IsStanding (record { place = place_in p 0 0; before = 0 })
standing_first p is = record {
  reached = record {
    few = omega arith;
    limit = is.limit;
    counted = is.counted;
    begins = λ _. zero-mod p.settings.interval;
    sets = [];
    leads = (refl, refl);
  };
  has = counted_none p.settings p.count p.limit p.bits;
}

-- the samples before a place, and those of the next interval, are at most 64 times `most_blocks`
pub before_few : (p q : Place) (before : ℕ) (ys : List ℤ) → IsAllowed p.settings → HasCounted p before → ReadsInterval p ys q → q.block < most_blocks
    → before + length ys ≤ 64 * most_blocks
before_few p q before ys a has step few =
    counts_few q q (before + length ys) (subst IsAllowed (sym (ap (λ (p : Place). p.settings) step.piece.same)) a)
    (counts_here q (before + length ys) (counted_on p q before ys a has step) few)

-- interval k is k - here intervals after the end of the last interval that was begun
pub way_from_here : (k here : ℕ) (p : Place) → 0 < p.settings.interval → IsPlace p → here ≡ div_ceil p.block p.settings.interval → here ≤ k
    → IsOnWay k (k - here) p
way_from_here k here p some is up within = record {
  begins = λ more. by_products (multiple (is.begins more));
  within = omega (arith, rest, bounds.0, ap (λ n. n * r) up);
}
  where
    r : ℕ
    r = p.settings.interval

    bounds : (p.block ≤ div_ceil p.block r * r) × (div_ceil p.block r * r < p.block + r)
    bounds = ceil_bounds p.block r some

    rest : (k - here) * r + here * r ≡ k * r
    rest = sym (add-mul (k - here) here r) ∙ ap (λ n. n * r) (omega (arith, within))

    split : p.block / r * r + p.block % r ≡ p.block
    split = div-add-mod' p.block r

    multiple : p.block % r ≡ 0 → here * r ≡ p.block
    multiple whole =
        ap (λ n. n * r) (up ∙ ceil_unique p.block r (p.block / r) (omega (arith, split, whole)) (omega (arith, split, whole, some)))
        ∙ omega (arith, split, whole)

    by_products : here * r ≡ p.block → p.block + (k - here) * r ≡ k * r
    by_products whole = omega (arith, rest, whole)

-- ---- one step of the kept reading, which contracts see as `now`

-- the next interval, of `len` samples, was read
abbrev pub ReadsOn : Standing → ℕ → ℕ → ℕ → Type 0
ReadsOn now i b len = (samples : List ℤ) × ReadsInterval now.place samples (place_in now.place i b) × (length samples ≡ len)

module _ (s : Settings) (count : Option ℕ) (bits : List Bool) (block bit before : ℕ) (now : Standing) (same : standing_at s count bits block bit before ≡ now)
    (st : IsStanding (standing_at s count bits block bit before)) where
  abbrev here : Place
  here = place_at s count most_samples bits block bit

  pub fits_on : (i b len : ℕ) → IsAllowed s → ReadsOn now i b len → IsPlace (place_in now.place i b) → before + len ≤ 64 * most_blocks
  fits_on i b len a reads is =
      let r = rw (← same) at reads in let few = rw (← same) at is in
      omega (arith, before_few here (place_in here i b) before r.0 a st.has r.1 few.few, r.2)

  pub stands_on : (i b len : ℕ) → IsAllowed s → ReadsOn now i b len → IsPlace (place_in now.place i b)
      → IsStanding (standing_at s count bits i b (before + len))
  stands_on i b len a reads is =
      let r = rw (← same) at reads in
      record {
        reached = rw (← same) at is;
        has = rw (← r.2) (counted_on here (place_in here i b) before r.0 a st.has r.1);
      }

  pub way_here : (k n : ℕ) → IsAllowed s → n ≡ div_ceil block s.interval → n ≤ k → IsOnWay k (k - n) (place_in now.place block bit)
  way_here k n a up within = rw (← same) (way_from_here k n here (interval-positive s a) st.reached up within)

  pub first_here : IsStanding (record { place = place_in now.place 0 0; before = 0 })
  first_here = rw (← same) (standing_first here st.reached)

-- a new reader, which has read nothing
pub stands_new : (s : Settings) (count : Option ℕ) (bits : List Bool) (reader : Place) (block bit : ℕ) → reader ≡ place_at s count most_samples bits 0 0
    → IsPlace reader → block ≡ reader.block → bit ≡ reader.bit → IsStanding (standing_at s count bits block bit 0)
stands_new s count bits reader block bit is reached same_block same_bit =
    rw (same_block, same_bit, is) (record { reached = rw is at reached; has = counted_none s count most_samples bits })
