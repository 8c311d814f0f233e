-- The front of a stream, whose bytes are kept, and the rest of it, which is written after them.
use Rattle.std.proofs.Common.{◌≡◌, ℕ, ◌+◌, ◌*◌, ◌-◌, ◌%◌, ◌<◌, ◌≤◌, max, Bool, true, false, Option, None, Some, Result, Ok, ℤ, List, [], ◌++◌, length, take, drop, refl, sym, ap, ap₂, ◌∙◌, subst, arith, ⊎_elim}
use Rattle.std.specs.List.{AllByRecursion}
use Rattle.std.specs.Int.{div_ceil}
use Rattle.std.proofs.Math.Nat.{zero-mod, add-mul, mul-le-mul_right}
use Rattle.std.proofs.lemmas.Bool.{cases_Bool, cases_lt, le-ltb}
use Rattle.std.proofs.lemmas.Grind.{div_ceil_times}
use Rattle.std.proofs.lemmas.List.{length-append, take_all}
use Rattle.aec_params.specs.declared.settings.Settings.{Settings}
use Rattle.aec_params.specs.declared.fault.Fault.{Fault}
use Rattle.aec_params.specs.Params.{IsAllowed, IsHeld, interval_len}
use Rattle.aec_params.specs.Reading.{is_wanted, IsReading}
use Rattle.aec_params.proofs.SettingLaws.{block_size-positive}
use Rattle.aec_params.specs.Limits.{most_blocks}
use Rattle.aec_interval.specs.Reached.{count_refusal, RefusesReading, RefusesDecoding}
use Rattle.aec_interval.specs.Pieces.{Place, place_at, is_wanted_at, ReadsIntervals}
use Rattle.aec_interval.proofs.PieceReadingLemmas.{has_read_nothing, has_read_several, has_read_front, has_read_few, has_read_all, piece_is_held}
use Rattle.aec_engine.specs.Output.{all_stored, samples_from}
use Rattle.aec_engine.specs.ReadingTwice.{AreSamplesOf, HaveSamples, KeepsFront, DecodesBits, SettlesOne}
use Rattle.aec_engine.specs.Delivering.{Delivers}
use Rattle.aec_engine.specs.ReadingTwice as twice
use Rattle.aec_engine.specs.Transfers.{Putting}
use Rattle.aec_engine.proofs.PutRangeLemmas.{all_stored-append, samples_from-append, samples_from-before}
use Rattle.aec_engine.proofs.ReadTwiceLemmas.{place_from, settings-same, CountsSoFar}
use Rattle.aec_engine.proofs.SettlingLemmas.{settles_written, refuses_reading}

-- ---- what was kept so far

pub counts_kept : (start p : Place) (s : Settings) (before : ℕ) (bytes : List ℕ) → p ≡ place_from start p.block p.bit → KeepsFront p s before bytes
    → CountsSoFar start p before
counts_kept start p s before bytes same keeps = record {
  samples = keeps.samples;
  read = keeps.read;
  counted = keeps.counted;
  same = same;
  few = keeps.few;
}

pub keeps_none : (start : Place) (s : Settings) (bytes : List ℕ) → start.block ≡ 0 → start.bit ≡ 0 → bytes ≡ [] → KeepsFront start s 0 bytes
keeps_none start s bytes block bit none = subst (λ p. KeepsFront p s 0 bytes) (sym at_start) (record {
  samples = [];
  read = has_read_nothing start.settings start.count start.limit start.bits;
  counted = refl;
  kept = none;
  few = omega arith;
  begins = λ _. zero-mod start.settings.interval;
})
  where
    at_start : start ≡ place_from start 0 0
    at_start = ap (λ i. place_from start i start.bit) block ∙ ap (λ b. place_from start 0 b) bit

pub keeps_more : (start p q : Place) (s : Settings) (before len more : ℕ) (bytes room bytes_then : List ℕ) (ys part : List ℤ) → IsAllowed start.settings
    → p ≡ place_from start p.block p.bit → KeepsFront p s before bytes → ReadsIntervals p ys q → q.block < most_blocks
    → (is_wanted_at q ≡ true → q.block % q.settings.interval ≡ 0) → room ≡ bytes → bytes_then ≡ room ++ all_stored s part → part ≡ ys
    → len ≡ length ys → more ≡ before + len → KeepsFront q s more bytes_then
keeps_more start p q s before len more bytes room bytes_then ys part a same keeps step few begins stays adds is counts adds_up = record {
  samples = keeps.samples ++ ys;
  read = has_read_several p q keeps.samples ys (subst IsAllowed (sym (settings-same start p same)) a) keeps.read step;
  counted = omega (arith, length-append keeps.samples ys, keeps.counted, counts, adds_up);
  kept = adds ∙ ap₂ (λ l part. l ++ all_stored s part) (stays ∙ keeps.kept) is ∙ sym (all_stored-append s keeps.samples ys);
  few = few;
  begins = begins;
}

-- ---- what is read first

module _ (start q : Place) (s : Settings) (more : Bool) (ys : List ℤ) (a : IsAllowed s) (settings : start.settings ≡ s)
    (read : more ≡ true → ReadsIntervals start ys q) (done : more ≡ false → q ≡ start) (empty : more ≡ false → ys ≡ []) where
  allowed : IsAllowed start.settings
  allowed = subst IsAllowed (sym settings) a

  -- the bytes of the samples that are read first are kept
  pub first_kept : (n : ℕ) → start.block ≡ 0 → start.bit ≡ 0 → q.block < most_blocks → (is_wanted_at q ≡ true → q.block % q.settings.interval ≡ 0)
      → n ≡ length ys → KeepsFront q s n (all_stored s ys)
  first_kept n block bit few begins counts =
      ⊎_elim (λ (h : more ≡ true).
      keeps_more start start q s 0 n n [] [] (all_stored s ys) ys ys allowed refl (keeps_none start s [] block bit refl) (read h) few begins refl refl
      refl counts (omega arith))
      (λ (h : more ≡ false).
      let none : ys ≡ [] = empty h in
      subst (λ (p : Place). KeepsFront p s n (all_stored s ys)) (sym (done h))
      (subst (λ k. KeepsFront start s k (all_stored s ys)) (sym (counts ∙ ap length none))
      (keeps_none start s (all_stored s ys) block bit (ap (all_stored s) none))))
      (cases_Bool more)

  -- the samples that are read first are samples of the settings
  pub first_held : AllByRecursion (IsHeld s) ys
  first_held =
      ⊎_elim (λ (h : more ≡ true). subst (λ s. AllByRecursion (IsHeld s) ys) settings (piece_is_held start q ys (read h).piece))
      (λ (h : more ≡ false). subst (AllByRecursion (IsHeld s)) (sym (empty h)) tt) (cases_Bool more)

  -- the reader then is at a place of the same reading
  pub first_same : q ≡ place_from start q.block q.bit
  first_same =
      ⊎_elim (λ (h : more ≡ true). (read h).piece.same)
      (λ (h : more ≡ false). subst (λ (p : Place). p ≡ place_from start p.block p.bit) (sym (done h)) refl) (cases_Bool more)

-- the samples that are read first are all that the count asks for
pub first_are_all : (s : Settings) (count : Option ℕ) (limit : ℕ) (bits : List Bool) (q : Place) (n : ℕ) (bytes : List ℕ) → IsAllowed s
    → q ≡ place_at s count limit bits q.block q.bit → None ≡ count_refusal limit count → KeepsFront q s n bytes → count ≡ Some n
    → DecodesBits s count limit bits (Ok bytes)
first_are_all s count limit bits q n bytes a same none keeps is =
    subst (λ l. DecodesBits s count limit bits (Ok l)) (sym keeps.kept) (twice.read keeps.samples (sym none) reading)
  where
    allowed : IsAllowed q.settings
    allowed = subst IsAllowed (sym (ap (λ (p : Place). p.settings) same)) a

    few : n ≤ q.block * q.settings.block_size
    few = omega (arith, keeps.counted, has_read_few q keeps.samples allowed keeps.read)

    needed : div_ceil n q.settings.block_size ≤ q.block
    needed = ⊎_elim (λ (h : q.block < div_ceil n q.settings.block_size).
        let more : (q.block + 1) * q.settings.block_size ≤ div_ceil n q.settings.block_size * q.settings.block_size =
        mul-le-mul_right q.settings.block_size (omega (arith, h)) in
        let bound = (div_ceil_times n q.settings.block_size (block_size-positive q.settings allowed)).1 in
        absurd (omega (arith, more, bound, few, add-mul q.block 1 q.settings.block_size)))
        (λ (h : div_ceil n q.settings.block_size ≤ q.block). h) (cases_lt q.block (div_ceil n q.settings.block_size))

    done : is_wanted_at q ≡ false
    done = subst (λ c. is_wanted q.settings c q.bits q.block q.bit ≡ false) (sym (ap (λ (p : Place). p.count) same ∙ is))
        (le-ltb q.block (div_ceil n q.settings.block_size) needed)

    reading : IsReading s count limit bits keeps.samples
    reading = subst (λ (p : Place). IsReading p.settings p.count p.limit p.bits keeps.samples) same
        (has_read_all q keeps.samples allowed keeps.read done)

-- ---- how many bytes are kept

-- kept bytes and the bytes of more samples fit, if there is room for those of an interval
pub few_more : (start p : Place) (s : Settings) (len most room there count kept : ℕ) → p ≡ place_from start p.block p.bit → start.settings ≡ s
    → len ≡ interval_len s → count ≤ max most (interval_len p.settings) → 4 * most ≤ room - there → 4 * len ≤ room - there → kept ≤ there + 4 * count
    → there ≤ room → kept ≤ room
few_more start p s len most room there count kept same is counted few within fits adds inside =
    let settings : interval_len p.settings ≡ interval_len s = ap interval_len (settings-same start p same ∙ is) in
    omega (arith, settings, counted, few, within, fits, adds, inside)

-- ---- kept bytes and those of the rest

-- the samples after a front are the rest
samples_from-rest : (before total : ℕ) (xs ys : List ℤ) → length xs ≡ before → length (xs ++ ys) ≡ total → samples_from before (total - before) (xs ++ ys) ≡ ys
samples_from-rest before total xs ys counted all =
    let len : total - before - (length xs - before) ≡ length ys = omega (arith, counted, all, length-append xs ys) in
    let none : before - length xs ≡ 0 = omega (arith, counted) in
    samples_from-append before (total - before) xs ys
    ∙ ap₂ ◌++◌ (samples_from-before before (total - before) xs (omega (arith, counted))) (ap₂ (λ n k. take n (drop k ys)) len none)
    ∙ take_all (length ys) ys (omega arith)

pub kept_and_rest : (p : Place) (s : Settings) (before total : ℕ) (bytes : List ℕ) (xs : List ℤ) → IsAllowed p.settings → KeepsFront p s before bytes
    → IsReading p.settings p.count p.limit p.bits xs → length xs ≡ total → bytes ++ all_stored s (samples_from before (total - before) xs) ≡ all_stored s xs
kept_and_rest p s before total bytes xs a keeps reading counted =
    let rest = has_read_front p keeps.samples xs a keeps.read keeps.begins reading in
    let behind : samples_from before (total - before) xs ≡ rest.0 =
    ap (samples_from before (total - before)) rest.1
    ∙ samples_from-rest before total keeps.samples rest.0 keeps.counted (sym (ap length rest.1) ∙ counted) in
    ap₂ (λ l part. l ++ all_stored s part) keeps.kept behind
    ∙ sym (ap (all_stored s) rest.1 ∙ all_stored-append s keeps.samples rest.0)

-- ---- answers

-- a refusal after the kept samples
pub refuses_behind : (s : Settings) (count : Option ℕ) (limit : ℕ) (bits : List Bool) (start p : Place) (fault : Fault)
    → start ≡ place_at s count limit bits 0 0 → p ≡ place_from start p.block p.bit → None ≡ count_refusal limit count
    → RefusesReading p.settings p.count p.limit p.bits 0 0 fault → RefusesDecoding s count limit bits fault
refuses_behind s count limit bits start p fault is same none refuses =
    refuses_reading s count limit bits start fault is none
    (subst (λ (p : Place). RefusesReading p.settings p.count p.limit p.bits 0 0 fault) same refuses)

-- the kept bytes and then those of the rest are the whole answer
pub settles_kept : (s : Settings) (count : Option ℕ) (limit : ℕ) (bits : List Bool) (start p q : Place) (before total left : ℕ) (bytes : List ℕ)
    (sink : Putting) (r : Result (Unit {0}) Fault) → IsAllowed s → start ≡ place_at s count limit bits 0 0 → None ≡ count_refusal limit count
    → p ≡ place_from start p.block p.bit → q ≡ place_from p q.block q.bit → KeepsFront p s before bytes → HaveSamples p total → left ≡ total - before
    → ((xs : List ℤ) → AreSamplesOf q xs → Delivers (bytes ++ all_stored s (samples_from before left xs)) sink r)
    → SettlesOne (DecodesBits s count limit bits) sink r
settles_kept s count limit bits start p q before total left bytes sink r a is none same there keeps have rest delivers =
    settles_written (DecodesBits s count limit bits) r (all_stored s xs) sink (twice.read xs (sym none) reading) all_put
  where
    xs : List ℤ
    xs = have.samples

    reading : IsReading s count limit bits xs
    reading = subst (λ (p : Place). IsReading p.settings p.count p.limit p.bits xs) is
        (subst (λ (p : Place). IsReading p.settings p.count p.limit p.bits xs) same have.reading)

    allowed : IsAllowed p.settings
    allowed = subst IsAllowed (sym (settings-same start p same ∙ ap (λ (p : Place). p.settings) is)) a

    given : AreSamplesOf q xs
    given = record { reading = subst (λ (p : Place). IsReading p.settings p.count p.limit p.bits xs) (sym there) have.reading }

    all_put : Delivers (all_stored s xs) sink r
    all_put = subst (λ l. Delivers l sink r)
        (ap (λ n. bytes ++ all_stored s (samples_from before n xs)) rest ∙ kept_and_rest p s before total bytes xs allowed keeps have.reading have.counted)
        (delivers xs given)
