-- Bits that are read once to count their samples, and again to write the bytes of some of them.
use Rattle.std.proofs.Common.{◌≡◌, ◌≢◌, ℕ, ◌+◌, ◌*◌, ◌<◌, ◌≤◌, Bool, false, Option, Some, IfSome, Result, Err, IfErr, ℤ, List, [], ◌++◌, length, refl, sym, ap, ◌∙◌, subst, arith, ⊎_elim}
use Rattle.std.proofs.Math.Nat.{mul-le-mul_right, zero-mod}
use Rattle.std.proofs.lemmas.Bool.{cases_lt}
use Rattle.std.proofs.lemmas.List.{length-append}
use Rattle.aec_params.specs.declared.settings.Settings.{Settings}
use Rattle.aec_params.specs.declared.fault.Fault.{Fault}
use Rattle.aec_params.specs.declared.fault.Fault.TheVariants.{Memory}
use Rattle.aec_params.specs.Params.{IsAllowed}
use Rattle.aec_params.specs.Reading.{IsReading}
use Rattle.aec_params.specs.Faults.{IsFault, IsWrongAt, not_read, cut_short, too_large, too_long, too_many}
use Rattle.aec_params.proofs.SettingLaws.{block_size-most}
use Rattle.aec_params.specs.Limits.{most_blocks}
use Rattle.aec_interval.specs.Reached.{RefusesReading}
use Rattle.aec_interval.specs.Pieces.{Place, place_at, is_wanted_at, IsPlace, ReadsIntervals, HasRead, RefusesAt}
use Rattle.aec_interval.specs.Skipping.{HasInterval, HasIntervals}
use Rattle.aec_interval.proofs.PieceReadingLemmas.{has_read_nothing, has_read_several, several-of_one, has_read_all, has_read_refused, has_read_wrong, has_read_few}
use Rattle.aec_engine.specs.ReadingTwice.{EndsAt, HaveSamples, IsBegun}

-- block i at bit b, in the reading of place p
abbrev pub place_from : Place → ℕ → ℕ → Place
place_from p i b = place_at p.settings p.count p.limit p.bits i b

-- all samples up to a place were counted
pub record CountsSoFar (start p : Place) (total : ℕ) : Type 0 where
  pub samples : List ℤ
  pub read : HasRead p samples
  pub counted : length samples ≡ total
  pub same : p ≡ place_from start p.block p.bit
  pub few : p.block < most_blocks

pub settings-same : (start p : Place) → p ≡ place_from start p.block p.bit → p.settings ≡ start.settings
settings-same start p same = ap (λ (p : Place). p.settings) same

pub same_next : (start p q : Place) → p ≡ place_from start p.block p.bit → q ≡ place_from p q.block q.bit → q ≡ place_from start q.block q.bit
same_next start p q first second = second ∙ ap (λ (p : Place). place_from p q.block q.bit) first

pub counts_more : (start p q : Place) (total more : ℕ) (ys : List ℤ) → IsAllowed start.settings → CountsSoFar start p total → ReadsIntervals p ys q
    → more ≡ total + length ys → q.block < most_blocks → CountsSoFar start q more
counts_more start p q total more ys a so_far step is few = record {
  samples = so_far.samples ++ ys;
  read = has_read_several p q so_far.samples ys (subst IsAllowed (sym (settings-same start p so_far.same)) a) so_far.read step;
  counted = omega (arith, length-append so_far.samples ys, so_far.counted, is);
  same = same_next start p q so_far.same step.piece.same;
  few = few;
}

-- the count of samples is at most 64 times `most_blocks`
pub counts_few : (start p : Place) (total : ℕ) → IsAllowed start.settings → CountsSoFar start p total → total ≤ 64 * most_blocks
counts_few start p total a so_far =
    let allowed = subst IsAllowed (sym (settings-same start p so_far.same)) a in
    let most : p.block * p.settings.block_size ≤ 64 * most_blocks = product p.block p.settings.block_size so_far.few (block_size-most p.settings allowed) in
    omega (arith, so_far.counted, has_read_few p so_far.samples allowed so_far.read, most)
  where
    product : (i j : ℕ) → i < most_blocks → j ≤ 64 → i * j ≤ 64 * most_blocks
    product i j low few =
        let x : i * j ≤ most_blocks * j = mul-le-mul_right j (omega (arith, low)) in
        omega (arith, x, few)

pub counts_refused : {X : Type 0} (r : Result X Fault) (fault other : Fault) (start p : Place) (total : ℕ) → IsAllowed start.settings → r ≡ Err fault
    → fault ≡ other
    → CountsSoFar start p total → RefusesAt p other → IfErr r (λ fault. RefusesReading start.settings start.count start.limit start.bits 0 0 fault)
counts_refused {X} r fault other start p total a is same so_far refuses =
    let P : Result X Fault → Type 0 = λ r. IfErr r (λ fault. RefusesReading start.settings start.count start.limit start.bits 0 0 fault) in
    let whole = has_read_refused p so_far.samples other (subst IsAllowed (sym (settings-same start p so_far.same)) a) so_far.read refuses in
    subst P (sym (is ∙ ap Err same)) (subst (λ (p : Place). RefusesReading p.settings p.count p.limit p.bits 0 0 other) so_far.same whole)

pub counts_all : (start p : Place) (total : ℕ) → IsAllowed start.settings → CountsSoFar start p total → is_wanted_at p ≡ false → HaveSamples start total
counts_all start p total a so_far done =
    let whole = has_read_all p so_far.samples (subst IsAllowed (sym (settings-same start p so_far.same)) a) so_far.read done in
    record {
      samples = so_far.samples;
      reading = subst (λ (p : Place). IsReading p.settings p.count p.limit p.bits so_far.samples) so_far.same whole;
      counted = so_far.counted;
    }

-- if no more is wanted, all is read
pub ends_at : (start p : Place) (total bit : ℕ) → CountsSoFar start p total → is_wanted_at p ≡ false → bit ≡ p.bit → EndsAt start bit
ends_at start p total bit so_far done is = subst (EndsAt start) (sym is) (record {
  block = p.block;
  samples = so_far.samples;
  read = subst (λ p. HasRead p so_far.samples) so_far.same so_far.read;
  done = subst (λ p. is_wanted_at p ≡ false) so_far.same done;
})

-- ---- an interval that is skipped

pub counts_interval : (start p q : Place) (total more len : ℕ) → IsAllowed start.settings → CountsSoFar start p total → HasInterval p len q → more ≡ total + len
    → q.block < most_blocks → CountsSoFar start q more
counts_interval start p q total more len a so_far has is few =
    counts_more start p q total more has.samples a so_far (several-of_one p q has.samples has.read) (omega (arith, is, has.counted)) few

-- with the samples of the interval, the count is at most 64 times `most_blocks` too
pub counts_within : (start p q : Place) (total len : ℕ) → IsAllowed start.settings → CountsSoFar start p total → HasInterval p len q → q.block < most_blocks
    → total + len ≤ 64 * most_blocks
counts_within start p q total len a so_far has few =
    counts_few start q (total + len) a (counts_interval start p q total (total + len) len a so_far has refl few)

pub some_interval : (p q : Place) (found : Option ℕ) (len : ℕ) → IfSome found (λ len. HasInterval p len q) → found ≡ Some len → HasInterval p len q
some_interval p q found len has is = subst (λ found. IfSome found (λ len. HasInterval p len q)) is has

-- ---- several intervals that are skipped

pub counts_several : (start p q : Place) (total more len : ℕ) → IsAllowed start.settings → CountsSoFar start p total → HasIntervals p len q
    → more ≡ total + len → q.block < most_blocks → CountsSoFar start q more
counts_several start p q total more len a so_far has is few =
    counts_more start p q total more has.samples a so_far has.read (omega (arith, is, has.counted)) few

-- with their samples, the count is at most 64 times `most_blocks` too
pub several_within : (start p q : Place) (total len : ℕ) → IsAllowed start.settings → CountsSoFar start p total → HasIntervals p len q
    → q.block < most_blocks → total + len ≤ 64 * most_blocks
several_within start p q total len a so_far has few =
    counts_few start q (total + len) a (counts_several start p q total (total + len) len a so_far has refl few)

pub some_several : (p q : Place) (found : Option ℕ) (len : ℕ) → IfSome found (λ len. HasIntervals p len q) → found ≡ Some len → HasIntervals p len q
some_several p q found len has is = subst (λ found. IfSome found (λ len. HasIntervals p len q)) is has

-- the fault of a reading from a place on is that of the whole reading
pub counts_wrong : {X : Type 0} (r : Result X Fault) (fault other : Fault) (start p : Place) (total : ℕ) → IsAllowed start.settings → r ≡ Err fault
    → fault ≡ other → CountsSoFar start p total → IsFault p.settings p.count p.limit p.bits p.block p.bit other
    → IfErr r (λ fault. IsFault start.settings start.count start.limit start.bits 0 0 fault)
counts_wrong {X} r fault other start p total a is same so_far wrong =
    let P : Result X Fault → Type 0 = λ r. IfErr r (λ fault. IsFault start.settings start.count start.limit start.bits 0 0 fault) in
    let whole = has_read_wrong p so_far.samples other (subst IsAllowed (sym (settings-same start p so_far.same)) a) so_far.read wrong in
    subst P (sym (is ∙ ap Err same)) (subst (λ (p : Place). IsFault p.settings p.count p.limit p.bits 0 0 other) so_far.same whole)

-- the fault of bits is never `Memory`
pub faults_last : (s : Settings) (count : Option ℕ) (limit : ℕ) (bits : List Bool) (i b : ℕ) (fault : Fault) → IsFault s count limit bits i b fault
    → fault ≢ Memory
faults_last s count limit bits i b fault is_fault = by_wrong is_fault.block is_fault.bit fault is_fault.wrong
  where
    by_wrong : (i b : ℕ) (fault : Fault) → IsWrongAt s count limit bits i b fault → fault ≢ Memory
    by_wrong i b fault (not_read f (cut_short none)) = λ same. absurd (cc)
    by_wrong i b fault (not_read f (too_large c at large)) = λ same. absurd (cc)
    by_wrong i b fault (too_long c at small past) = λ same. absurd (cc)
    by_wrong i b fault (too_many c at lawful past) = λ same. absurd (cc)

-- ---- a place that is noted

-- before the first bit there are no samples
pub begun_nothing : (s : Settings) (count : Option ℕ) (limit : ℕ) (bits : List Bool) (p : Place) → p ≡ place_at s count limit bits 0 0 → IsBegun p 0 0
begun_nothing s count limit bits p is = subst (λ p. IsBegun p 0 0) (sym is) (record {
  samples = [];
  read = has_read_nothing s count limit bits;
  counted = refl;
  at_most = omega arith;
  few = omega arith;
  begins = λ _. zero-mod s.interval;
})

-- at the first bit 0 samples were read, which is at most any `first`
pub begun_at_start : (p : Place) (first : ℕ) → p.block ≡ 0 → p.bit ≡ 0 → IsBegun p 0 first
begun_at_start p first block bit =
    let nothing = begun_nothing p.settings p.count p.limit p.bits p (ap (λ i. place_from p i p.bit) block ∙ ap (λ b. place_from p 0 b) bit) in
    record {
      samples = nothing.samples;
      read = nothing.read;
      counted = nothing.counted;
      at_most = omega arith;
      few = nothing.few;
      begins = nothing.begins;
    }

pub counts_begun : (start : Place) (before first : ℕ) → IsBegun start before first → CountsSoFar start start before
counts_begun start before first begun = record {
  samples = begun.samples;
  read = begun.read;
  counted = begun.counted;
  same = refl;
  few = begun.few;
}

-- a place was reached, and at most `first` samples are before it
pub record IsNoted (start : Place) (block bit before first : ℕ) : Type 0 where
  pub place : IsPlace (place_from start block bit)
  pub begun : IsBegun (place_from start block bit) before first

pub noted_here : (start p : Place) (block bit before first : ℕ) → CountsSoFar start p before → IsPlace p → block ≡ p.block → bit ≡ p.bit → before ≤ first
    → IsNoted start block bit before first
noted_here start p block bit before first so_far is same_block same_bit at_most = record {
  place = subst IsPlace (sym here) is;
  begun = subst (λ p. IsBegun p before first) (sym here) (record {
    samples = so_far.samples;
    read = so_far.read;
    counted = so_far.counted;
    at_most = at_most;
    few = is.few;
    begins = is.begins;
  });
}
  where
    here : place_from start block bit ≡ p
    here = ap (λ i. place_from start i bit) same_block ∙ (ap (λ b. place_from start p.block b) same_bit ∙ sym so_far.same)

-- of two places the later is kept if at most `first` samples are before it, else the other
pub noted_later : {X : Type 0} (P : X → Type 0) (noted here kept : X) (before first : ℕ) → (before ≤ first → kept ≡ here) → (first < before → kept ≡ noted)
    → P noted → (before ≤ first → P here) → P kept
noted_later P noted here kept before first later earlier old new =
    ⊎_elim (λ h. subst P (sym (earlier h)) old) (λ h. subst P (sym (later h)) (new h)) (cases_lt first before)

-- a noted place is a place for a reader that has moved on
pub noted_place : (start p q : Place) (block bit before first : ℕ) → p ≡ place_from start p.block p.bit → q ≡ p → IsNoted start block bit before first
    → IsPlace (place_from q block bit)
noted_place start p q block bit before first same is noted =
    subst IsPlace (sym (ap (λ (p : Place). place_from p block bit) (is ∙ same))) noted.place
