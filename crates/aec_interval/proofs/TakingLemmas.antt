-- Samples that are taken after others, and what bytes are as a whole.
use Rattle.std.proofs.Common.{◌≡◌, ℕ, suc, ◌+◌, ◌/◌, ◌≤◌, ◌<◌, Bool, true, false, Option, Some, None, Result, Ok, Err, ℤ, List, [], ◌∷◌, ◌++◌, length, refl, sym, ap, ap₂, ◌∙◌, arith, ⊎_elim}
use Rattle.std.proofs.lemmas.Bool.{cases_lt, lt-ltb, le-ltb}
use Rattle.aec_params.specs.Params.{storage_len}
use Rattle.std.specs.Prelude.{nat_lt, if◌then◌else◌}
use Rattle.aec_params.specs.declared.settings.Settings.{Settings}
use Rattle.aec_params.specs.declared.fault.Fault.{Fault}
use Rattle.aec_params.specs.declared.fault.Fault.TheVariants.{SampleRange, TooManySamples}
use Rattle.aec_params.specs.Stored.{number_in, sample_of_number, sample_before, samples_of_groups, samples_of_bytes, byte_groups}
use Rattle.aec_interval.proofs.CuttingLemmas.{length-first_chunks}
use Rattle.aec_interval.specs.Taking.{TakenSamples, in_range, judged_sample, taken_before, taken_groups, judged_samples}

-- what is taken in all, if none of the first samples was refused
abbrev pub taken_behind : TakenSamples → TakenSamples → TakenSamples
taken_behind first later = record { samples = first.samples ++ later.samples; refusal = later.refusal }

behind_step : (o : Result ℤ Fault) (i j : ℕ) (later all more : TakenSamples) → (taken_before o later).refusal ≡ None
    → j ≡ i + length (taken_before o later).samples → (later.refusal ≡ None → j ≡ i + 1 + length later.samples → all ≡ taken_behind later more)
    → taken_before o all ≡ taken_behind (taken_before o later) more
behind_step (Ok x) i j later all more none count ih = rw (ih none (omega arith))
behind_step (Err fault) i j later all more none count ih = absurd (cc)

pub taken_groups-append : (s : Settings) (limit i j : ℕ) (gs hs : List (List ℕ)) → (taken_groups s limit i gs).refusal ≡ None
    → j ≡ i + length (taken_groups s limit i gs).samples
    → taken_groups s limit i (gs ++ hs) ≡ taken_behind (taken_groups s limit i gs) (taken_groups s limit j hs)
taken_groups-append s limit i j [] hs none count = ap (λ k. taken_groups s limit k hs) (omega arith)
taken_groups-append s limit i j (g ∷ gs) hs none count =
    behind_step (judged_sample s limit i g) i j (taken_groups s limit (i + 1) gs) (taken_groups s limit (i + 1) (gs ++ hs)) (taken_groups s limit j hs) none
    count (λ later n. taken_groups-append s limit (i + 1) j gs hs later n)

refused_step : (o : Result ℤ Fault) (fault : Fault) (later all : TakenSamples) → (taken_before o later).refusal ≡ Some fault
    → (later.refusal ≡ Some fault → all ≡ later) → taken_before o all ≡ taken_before o later
refused_step (Ok x) fault later all refusal ih = rw ih
refused_step (Err e) fault later all refusal ih = refl

-- nothing is taken after a refusal
pub taken_groups-refused : (s : Settings) (limit i : ℕ) (gs hs : List (List ℕ)) (fault : Fault) → (taken_groups s limit i gs).refusal ≡ Some fault
    → taken_groups s limit i (gs ++ hs) ≡ taken_groups s limit i gs
taken_groups-refused s limit i [] hs fault refusal = absurd (cc)
taken_groups-refused s limit i (g ∷ gs) hs fault refusal =
    refused_step (judged_sample s limit i g) fault (taken_groups s limit (i + 1) gs) (taken_groups s limit (i + 1) (gs ++ hs)) refusal
    (λ later. taken_groups-refused s limit (i + 1) gs hs fault later)

-- ---- all samples

all_step : (t : Bool) (o : Option ℤ) (i : ℕ) (f : Fault) (later : TakenSamples) (all : Result (List ℤ) ℕ)
    → (taken_before (if t then in_range i o else Err f) later).refusal ≡ None → (later.refusal ≡ None → all ≡ Ok later.samples)
    → sample_before o i all ≡ Ok (taken_before (if t then in_range i o else Err f) later).samples
all_step true (Some x) i f later all none ih = rw ih
all_step true None i f later all none ih = absurd (cc)
all_step false o i f later all none ih = absurd (cc)

-- if none is refused, the samples that are taken are those of all groups
pub taken_groups-all : (s : Settings) (limit i : ℕ) (gs : List (List ℕ)) → (taken_groups s limit i gs).refusal ≡ None
    → samples_of_groups s i gs ≡ Ok (taken_groups s limit i gs).samples
taken_groups-all s limit i [] none = refl
taken_groups-all s limit i (g ∷ gs) none =
    all_step (nat_lt i limit) (sample_of_number s (number_in s g)) i (TooManySamples limit) (taken_groups s limit (i + 1) gs)
    (samples_of_groups s (i + 1) gs) none (λ later. taken_groups-all s limit (i + 1) gs later)

-- ---- the refusal

bad_step : (o : Option ℤ) (i k : ℕ) (later : Result (List ℤ) ℕ) → ((m : ℕ) → later ≡ Err m → i + 1 ≤ m) → sample_before o i later ≡ Err k → i ≤ k
bad_step None i k later ih e =
    let same : i ≡ k = cc in
    omega arith
bad_step (Some x) i k (Ok xs) ih e = absurd (cc)
bad_step (Some x) i k (Err m) ih e = omega (arith, ih)

-- the number of a bad sample is not below that of the first sample
pub bad_behind : (s : Settings) (i k : ℕ) (gs : List (List ℕ)) → samples_of_groups s i gs ≡ Err k → i ≤ k
bad_behind s i k [] e = absurd (cc)
bad_behind s i k (g ∷ gs) e =
    bad_step (sample_of_number s (number_in s g)) i k (samples_of_groups s (i + 1) gs) (λ m f. bad_behind s (i + 1) m gs f) e

-- the refusal of samples of which the first is sample i
abbrev pub judged_from : ℕ → ℕ → Result (List ℤ) ℕ → Option Fault
judged_from limit i (Ok samples) = if nat_lt limit (i + length samples) then Some (TooManySamples limit) else None
judged_from limit i (Err bad) = Some (if nat_lt bad limit then SampleRange bad else TooManySamples limit)

-- the refusal, if sample i is at the limit
judged_above : (o : Option ℤ) (limit i : ℕ) (later : Result (List ℤ) ℕ) → i ≡ limit → ((k : ℕ) → later ≡ Err k → i + 1 ≤ k)
    → Some (TooManySamples limit) ≡ judged_from limit i (sample_before o i later)
judged_above None limit i later at bad = rw (le-ltb i limit (omega arith))
judged_above (Some x) limit i (Ok xs) at bad =
    let past : limit < i + length (x ∷ xs) = omega arith in
    rw lt-ltb
judged_above (Some x) limit i (Err k) at bad = rw (le-ltb k limit (omega (arith, bad k refl)))

judged_step : (s : Settings) (limit i : ℕ) (g : List ℕ) (gs : List (List ℕ))
    → (i + 1 ≤ limit → (taken_groups s limit (i + 1) gs).refusal ≡ judged_from limit (i + 1) (samples_of_groups s (i + 1) gs)) → i ≤ limit
    → (taken_groups s limit i (g ∷ gs)).refusal ≡ judged_from limit i (samples_of_groups s i (g ∷ gs))
judged_step s limit i g gs ih h = ⊎_elim below above (cases_lt i limit)
  where
    o : Option ℤ
    o = sample_of_number s (number_in s g)

    below : i < limit → (taken_groups s limit i (g ∷ gs)).refusal ≡ judged_from limit i (samples_of_groups s i (g ∷ gs))
    below l = grind arith

    above : limit ≤ i → (taken_groups s limit i (g ∷ gs)).refusal ≡ judged_from limit i (samples_of_groups s i (g ∷ gs))
    above l = rw le-ltb (judged_above o limit i (samples_of_groups s (i + 1) gs) (omega arith) (λ k e. bad_behind s (i + 1) k gs e))

judged_groups : (s : Settings) (limit i : ℕ) (gs : List (List ℕ)) → i ≤ limit
    → (taken_groups s limit i gs).refusal ≡ judged_from limit i (samples_of_groups s i gs)
judged_groups s limit i [] h =
    let n : ℕ = i + length {A = ℤ} [] in
    rw (le-ltb limit n (omega arith))
judged_groups s limit i (g ∷ gs) h = judged_step s limit i g gs (λ k. judged_groups s limit (i + 1) gs k) h

judged_at_start : (limit : ℕ) (all : Result (List ℤ) ℕ) → judged_from limit 0 all ≡ judged_samples limit all
judged_at_start limit (Ok xs) = ap (λ n. if nat_lt limit n then Some (TooManySamples limit) else None) (omega arith)
judged_at_start limit (Err k) = refl

-- the refusal, from what the groups are as a whole
pub judged_all : (s : Settings) (limit : ℕ) (gs : List (List ℕ)) → (taken_groups s limit 0 gs).refusal ≡ judged_samples limit (samples_of_groups s 0 gs)
judged_all s limit gs = judged_groups s limit 0 gs (omega arith) ∙ judged_at_start limit (samples_of_groups s 0 gs)

-- if none is refused, at most `limit` samples are taken
pub taken_within : (s : Settings) (limit : ℕ) (gs : List (List ℕ)) → (taken_groups s limit 0 gs).refusal ≡ None
    → length (taken_groups s limit 0 gs).samples ≤ limit
taken_within s limit gs none = grind (arith, taken_groups-all, judged_all)

-- ---- samples that are all taken

length-samples : (s : Settings) (i : ℕ) (groups : List (List ℕ)) (samples : List ℤ) → samples_of_groups s i groups ≡ Ok samples → length samples ≡ length groups
length-samples s i [] samples e = cc
length-samples s i (group ∷ groups) samples e =
    by_first (sample_of_number s (number_in s group)) (samples_of_groups s (i + 1) groups) (λ xs is. length-samples s (i + 1) groups xs is) e
  where
    by_first : (first : Option ℤ) (later : Result (List ℤ) ℕ) → ((xs : List ℤ) → later ≡ Ok xs → length xs ≡ length groups)
        → sample_before first i later ≡ Ok samples → length samples ≡ suc (length groups)
    by_first None later all e = absurd (cc)
    by_first (Some x) (Err k) all e = absurd (cc)
    by_first (Some x) (Ok xs) all e = let is : x ∷ xs ≡ samples = cc in rw (← is, all xs)

-- bytes hold one sample in each whole group
pub length-samples_of_bytes : (s : Settings) (bytes : List ℕ) (samples : List ℤ) → samples_of_bytes s bytes ≡ Ok samples
    → length samples ≡ length bytes / storage_len s
length-samples_of_bytes s bytes samples read =
    length-samples s 0 (byte_groups s bytes) samples read ∙ length-first_chunks (storage_len s) (length bytes / storage_len s) bytes

-- samples of which none is refused
abbrev pub all_taken : List ℤ → TakenSamples
all_taken xs = record { samples = xs; refusal = None }

-- the samples of groups don't depend on the number at which counting begins
counted_step : (o : Option ℤ) (i j : ℕ) (later there : Result (List ℤ) ℕ) (xs : List ℤ) → sample_before o i later ≡ Ok xs
    → ((ys : List ℤ) → later ≡ Ok ys → there ≡ Ok ys) → sample_before o j there ≡ Ok xs
counted_step None i j later there xs e ih = absurd (cc)
counted_step (Some x) i j (Ok ys) there xs e ih = rw (ih ys) e
counted_step (Some x) i j (Err k) there xs e ih = absurd (cc)

pub counted_from : (s : Settings) (i j : ℕ) (gs : List (List ℕ)) (xs : List ℤ) → samples_of_groups s i gs ≡ Ok xs → samples_of_groups s j gs ≡ Ok xs
counted_from s i j [] xs e = e
counted_from s i j (g ∷ gs) xs e =
    counted_step (sample_of_number s (number_in s g)) i j (samples_of_groups s (i + 1) gs) (samples_of_groups s (j + 1) gs) xs e
    (λ ys later. counted_from s (i + 1) (j + 1) gs ys later)

-- good samples within the limit are all taken
pub taken_groups-good : (s : Settings) (limit i j : ℕ) (gs : List (List ℕ)) (xs : List ℤ) → samples_of_groups s j gs ≡ Ok xs → i + length xs ≤ limit
    → taken_groups s limit i gs ≡ all_taken xs
taken_groups-good s limit i j gs xs e within =
    let here = counted_from s j i gs xs e in
    let none : (taken_groups s limit i gs).refusal ≡ None = rw (judged_groups s limit i gs (omega arith), here, le-ltb) in
    let same = sym (taken_groups-all s limit i gs none) ∙ here in
    ap₂ (λ ys r. record { samples = ys; refusal = r }) (cc) none
