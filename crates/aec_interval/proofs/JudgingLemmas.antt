-- How many samples are taken before one is refused, and why that one is refused.
use Rattle.std.proofs.Common.{◌≡◌, ℕ, suc, ◌+◌, ◌-◌, ◌/◌, ◌≤◌, ◌<◌, min, Bool, true, false, Option, Some, None, unwrap_or, Result, Ok, Err, ℤ, List, [], ◌∷◌, ◌++◌, length, refl, arith, ⊎_elim}
use Rattle.std.specs.Prelude.{nat_lt, if◌then◌else◌}
use Rattle.std.specs.Result.{result_err}
use Rattle.std.proofs.lemmas.Bool.{cases_lt, lt-ltb}
use Rattle.aec_params.specs.declared.settings.Settings.{Settings}
use Rattle.aec_params.specs.declared.fault.Fault.{Fault}
use Rattle.aec_params.specs.declared.fault.Fault.TheVariants.{TooManySamples}
use Rattle.aec_params.specs.Params.{storage_len}
use Rattle.aec_params.specs.Stored.{number_in, sample_of_number, sample_before, samples_of_groups, samples_of_bytes, byte_groups}
use Rattle.aec_interval.specs.Taking.{TakenSamples, in_range, judged_sample, taken_before, taken_groups}
use Rattle.aec_interval.specs.Progress.{refusal_at}
use Rattle.aec_interval.proofs.TakingLemmas.{bad_behind}
use Rattle.aec_interval.proofs.CuttingLemmas.{length-first_chunks}

-- ---- how many are taken: those before the first bad one, up to the limit

-- the place of the first bad sample; `end` if there is none
abbrev good_up_to : Result (List ℤ) ℕ → ℕ → ℕ
good_up_to all end = unwrap_or (result_err all) end

-- one sample more, if sample i is below the limit
length_below : (o : Option ℤ) (limit i j n : ℕ) (taken : TakenSamples) (later : Result (List ℤ) ℕ) → i < limit
    → ((k : ℕ) → later ≡ Err k → j + 1 ≤ k)
    → length taken.samples ≡ min (good_up_to later (j + 1 + n) - (j + 1)) (limit - (i + 1))
    → length (taken_before (in_range i o) taken).samples ≡ min (good_up_to (sample_before o j later) (j + suc n) - j) (limit - i)
length_below None limit i j n taken later below bad ih = let none : 0 ≡ min (j - j) (limit - i) = omega arith in none
length_below (Some x) limit i j n taken (Ok xs) below bad ih =
    let before : length taken.samples ≡ min (j + 1 + n - (j + 1)) (limit - (i + 1)) = ih in
    let all : suc (length taken.samples) ≡ min (j + suc n - j) (limit - i) = omega arith in
    all
length_below (Some x) limit i j n taken (Err k) below bad ih =
    let before : length taken.samples ≡ min (k - (j + 1)) (limit - (i + 1)) = ih in
    let all : suc (length taken.samples) ≡ min (k - j) (limit - i) = omega (arith, bad k refl) in
    all

length_step : (s : Settings) (limit i j : ℕ) (g : List ℕ) (gs : List (List ℕ))
    → (i + 1 ≤ limit → length (taken_groups s limit (i + 1) gs).samples
    ≡ min (good_up_to (samples_of_groups s (j + 1) gs) (j + 1 + length gs) - (j + 1)) (limit - (i + 1)))
    → length (taken_groups s limit i (g ∷ gs)).samples
    ≡ min (good_up_to (samples_of_groups s j (g ∷ gs)) (j + suc (length gs)) - j) (limit - i)
length_step s limit i j g gs ih = ⊎_elim below above (cases_lt i limit)
  where
    o : Option ℤ
    o = sample_of_number s (number_in s g)

    end : ℕ
    end = good_up_to (samples_of_groups s j (g ∷ gs)) (j + suc (length gs)) - j

    below : i < limit → length (taken_groups s limit i (g ∷ gs)).samples ≡ min end (limit - i)
    below l =
        rw lt-ltb (length_below o limit i j (length gs) (taken_groups s limit (i + 1) gs) (samples_of_groups s (j + 1) gs) l
        (λ k e. bad_behind s (j + 1) k gs e) (ih (omega arith)))

    above : limit ≤ i → length (taken_groups s limit i (g ∷ gs)).samples ≡ min end (limit - i)
    above l = grind arith

pub length-taken_groups : (s : Settings) (limit i j : ℕ) (gs : List (List ℕ))
    → length (taken_groups s limit i gs).samples ≡ min (good_up_to (samples_of_groups s j gs) (j + length gs) - j) (limit - i)
length-taken_groups s limit i j [] = let none : 0 ≡ min (j + 0 - j) (limit - i) = omega arith in none
length-taken_groups s limit i j (g ∷ gs) = length_step s limit i j g gs (λ _. length-taken_groups s limit (i + 1) (j + 1) gs)

-- how many samples of bytes are taken: those before the first bad one, up to the limit
pub taken_count : (s : Settings) (limit count : ℕ) (bytes : List ℕ) (good n : ℕ) → n ≡ min good (limit - count)
    → good ≡ unwrap_or (result_err (samples_of_bytes s bytes)) (length bytes / storage_len s)
    → n ≡ length (taken_groups s limit count (byte_groups s bytes)).samples
taken_count s limit count bytes good n least first =
    let groups = byte_groups s bytes in
    let end : length bytes / storage_len s ≡ 0 + length groups = omega (arith, length-first_chunks) in
    let up : good ≡ good_up_to (samples_of_groups s 0 groups) (0 + length groups) = cc in
    let same : good ≡ good_up_to (samples_of_groups s 0 groups) (0 + length groups) - 0 = omega arith in
    rw (least, same, length-taken_groups s limit count 0)

few_step : (r : Result ℤ Fault) (n : ℕ) (later : TakenSamples) → length later.samples ≤ n → length (taken_before r later).samples ≤ suc n
few_step (Ok x) n later few = omega arith
few_step (Err fault) n later few = omega arith

-- no more samples are taken than there are groups
pub few_taken_groups : (s : Settings) (limit i : ℕ) (gs : List (List ℕ)) → length (taken_groups s limit i gs).samples ≤ length gs
few_taken_groups s limit i [] = omega arith
few_taken_groups s limit i (g ∷ gs) =
    few_step (judged_sample s limit i g) (length gs) (taken_groups s limit (i + 1) gs) (few_taken_groups s limit (i + 1) gs)

-- ---- whether one is refused, and why

all_step : (r : Result ℤ Fault) (n : ℕ) (later : TakenSamples) → suc n ≤ length (taken_before r later).samples
    → (n ≤ length later.samples → later.refusal ≡ None) → (taken_before r later).refusal ≡ None
all_step (Ok x) n later most ih = ih (omega arith)
all_step (Err fault) n later most ih = absurd (omega arith)

-- if all are taken, none is refused
pub refusal-all_taken : (s : Settings) (limit i : ℕ) (gs : List (List ℕ)) → length gs ≤ length (taken_groups s limit i gs).samples
    → (taken_groups s limit i gs).refusal ≡ None
refusal-all_taken s limit i [] all = refl
refusal-all_taken s limit i (g ∷ gs) all =
    all_step (judged_sample s limit i g) (length gs) (taken_groups s limit (i + 1) gs) all (λ m. refusal-all_taken s limit (i + 1) gs m)

front_step : (r : Result ℤ Fault) (n : ℕ) (all front : TakenSamples) → suc n ≤ length (taken_before r all).samples
    → (n ≤ length all.samples → length front.samples ≡ n) → length (taken_before r front).samples ≡ suc n
front_step (Ok x) n all front most ih = rw (ih (omega arith))
front_step (Err fault) n all front most ih = absurd (omega arith)

-- if all groups of a front are taken when others follow, all of them are taken alone
pub length-front_taken : (s : Settings) (limit i : ℕ) (gs hs : List (List ℕ)) → length gs ≤ length (taken_groups s limit i (gs ++ hs)).samples
    → length (taken_groups s limit i gs).samples ≡ length gs
length-front_taken s limit i [] hs most = refl
length-front_taken s limit i (g ∷ gs) hs most =
    front_step (judged_sample s limit i g) (length gs) (taken_groups s limit (i + 1) (gs ++ hs)) (taken_groups s limit (i + 1) gs) most
    (λ m. length-front_taken s limit (i + 1) gs hs m)

refused_step : (t : Bool) (o : Option ℤ) (limit i n : ℕ) (later : TakenSamples) → t ≡ nat_lt i limit
    → length (taken_before (if t then in_range i o else Err (TooManySamples limit)) later).samples < suc n
    → (length later.samples < n → later.refusal ≡ Some (refusal_at limit (i + 1 + length later.samples)))
    → (taken_before (if t then in_range i o else Err (TooManySamples limit)) later).refusal
    ≡ Some (refusal_at limit (i + length (taken_before (if t then in_range i o else Err (TooManySamples limit)) later).samples))
refused_step true (Some x) limit i n later test few ih =
    let place : i + 1 + length later.samples ≡ i + suc (length later.samples) = omega arith in
    rw (ih (omega arith), place)
refused_step true None limit i n later test few ih =
    let place : i ≡ i + 0 = omega arith in
    cc
refused_step false o limit i n later test few ih =
    let place : i ≡ i + 0 = omega arith in
    cc

-- the first sample that isn't taken is refused
pub refusal-taken_groups : (s : Settings) (limit i : ℕ) (gs : List (List ℕ)) → length (taken_groups s limit i gs).samples < length gs
    → (taken_groups s limit i gs).refusal ≡ Some (refusal_at limit (i + length (taken_groups s limit i gs).samples))
refusal-taken_groups s limit i [] few = absurd (omega arith)
refusal-taken_groups s limit i (g ∷ gs) few =
    refused_step (nat_lt i limit) (sample_of_number s (number_in s g)) limit i (length gs) (taken_groups s limit (i + 1) gs) refl few
    (λ fewer. refusal-taken_groups s limit (i + 1) gs fewer)
