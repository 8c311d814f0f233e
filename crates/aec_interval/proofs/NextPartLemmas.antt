-- Which bytes are the next part of a piece.
use Rattle.std.proofs.Common.{◌≡◌, ℕ, zero, suc, ◌+◌, ◌-◌, ◌*◌, ◌/◌, ◌%◌, ◌<◌, ◌≤◌, inr, Bool, List, [], ◌++◌, length, take, drop, refl, sym, ap, ◌∙◌, arith, mul-le-mul_right}
use Rattle.std.proofs.Math.Nat.{mul-mod_left}
use Rattle.std.proofs.lemmas.List.{length-append, take-append-drop, take-take, length-take-le}
use Rattle.aec_params.specs.declared.settings.Settings.{Settings}
use Rattle.aec_params.specs.Params.{IsAllowed, interval_len, storage_len}
use Rattle.aec_params.specs.Stored.{byte_groups}
use Rattle.aec_interval.specs.Taking.{taken_groups}
use Rattle.aec_interval.specs.Feeding.{Coder, taken_of, samples_with, StopsFeeding, refused}
use Rattle.aec_interval.specs.Progress.{IsPart, IsProgress, IsFewOrWhole, refusal_at, coder_at}
use Rattle.aec_interval.specs.declared.stream_coder.pieces.Progress.{Progress}
use Rattle.aec_interval.specs.declared.stream_coder.pieces.Terms.{Terms}
use Rattle.aec_interval.proofs.PieceLemmas.{byte_groups-whole}
use Rattle.aec_interval.proofs.FeedingLemmas.{stops_before}
use Rattle.aec_interval.proofs.TakingLemmas.{taken_groups-all, counted_from}
use Rattle.aec_interval.proofs.CuttingLemmas.{length-first_chunks}
use Rattle.aec_interval.proofs.JudgingLemmas.{length-taken_groups, few_taken_groups, refusal-all_taken, length-front_taken, refusal-taken_groups}
use Rattle.aec_interval.proofs.PartLemmas.{no_bits, part_count}

length-byte_groups : (s : Settings) (part : List ℕ) (n : ℕ) → IsAllowed s → length part ≡ n * storage_len s → length (byte_groups s part) ≡ n
length-byte_groups s part n a whole = length-first_chunks (storage_len s) (length part / storage_len s) part ∙ part_count s part n a whole

-- samples that are all taken are a part
part_of_taken : (u : Terms) (p : Progress) (part : List ℕ) (n : ℕ) → IsProgress u p → length part ≡ n * storage_len u.params → 0 < n
    → IsFewOrWhole (interval_len u.params) (length p.held + n)
    → length (taken_groups u.params u.limit p.count (byte_groups u.params part)).samples ≡ n → IsPart u p part
part_of_taken u p part n h whole some fills taken =
    let s = u.params in
    let groups = byte_groups s part in
    let many = length-byte_groups s part n h.held.allowed whole in
    let none = refusal-all_taken s u.limit p.count groups (omega arith) in
    let read = counted_from s p.count 0 groups (taken_groups s u.limit p.count groups).samples (taken_groups-all s u.limit p.count groups none) in
    let few = length-taken_groups s u.limit p.count 0 groups in
    record {
      samples = n;
      whole = whole;
      some = some;
      fills = fills;
      good = rw read;
      within = omega (arith, part_count s part n h.held.allowed whole);
    }

-- a front of samples, no longer than what is taken of them, is a part
front_of_taken : (u : Terms) (p : Progress) (judged front later : List ℕ) (n taken : ℕ) → IsProgress u p → judged ≡ front ++ later
    → length front ≡ n * storage_len u.params → 0 < n → IsFewOrWhole (interval_len u.params) (length p.held + n)
    → taken ≡ length (taken_groups u.params u.limit p.count (byte_groups u.params judged)).samples → n ≤ taken → IsPart u p front
front_of_taken u p judged front later n taken h cut whole some fills many within =
    let s = u.params in
    let a = h.held.allowed in
    let both = ap (byte_groups s) cut ∙ byte_groups-whole s n front later a whole in
    let len = length-byte_groups s front n a whole in
    let all = ap (λ gs. length (taken_groups s u.limit p.count gs).samples) both in
    part_of_taken u p front n h whole some fills
    (length-front_taken s u.limit p.count (byte_groups s front) (byte_groups s later) (omega arith) ∙ len)

-- if a sample is refused before the next interval is complete, the bytes are refused
part_refused : (u : Terms) (p : Progress) (bytes judged later : List ℕ) (bits : List Bool) (n taken : ℕ) → IsProgress u p
    → bytes ≡ judged ++ later → length judged ≡ n * storage_len u.params
    → taken ≡ length (taken_groups u.params u.limit p.count (byte_groups u.params judged)).samples → taken < n
    → length p.held + taken < interval_len u.params → StopsFeeding (coder_at u p []) bytes bits bits (refusal_at u.limit (p.count + taken))
part_refused u p bytes judged later bits n taken h cut whole many fewer few =
    let s = u.params in
    let a = h.held.allowed in
    let c : Coder = coder_at u p [] in
    let len = length-byte_groups s judged n a whole in
    rw cut (stops_before c judged later bits bits (refusal_at u.limit (p.count + taken)) a (refused (refusal_at u.limit (p.count + taken)) (rw (
      refusal-taken_groups s u.limit p.count (byte_groups s judged) (omega arith),
      many,
    )) (no_bits s bits (samples_with c judged) a
    (omega (arith, length-append p.held (taken_of c judged).samples)))))

-- ---- how long the part is

mul_within : (n m w : ℕ) → n ≤ m / w → n * w ≤ m
mul_within n m w few = omega (arith, mul-le-mul_right w few)

length-judged : (s : Settings) (bytes : List ℕ) (n w : ℕ) → w ≡ storage_len s → n ≤ length bytes / w → length (take (n * w) bytes) ≡ n * storage_len s
length-judged s bytes n w width few = rw (length-take-le (n * w) bytes (mul_within n (length bytes) w few), width)

-- how many samples are taken of the first n
abbrev taken_of_first : Terms → Progress → List ℕ → ℕ → ℕ
taken_of_first u p bytes n = length (taken_groups u.params u.limit p.count (byte_groups u.params (take n bytes))).samples

pub few_of_first : (u : Terms) (p : Progress) (bytes : List ℕ) (w n taken : ℕ) → IsProgress u p → w ≡ storage_len u.params → n ≤ length bytes / w
    → taken ≡ taken_of_first u p bytes (n * w) → taken ≤ n
few_of_first u p bytes w n taken h width few many = grind (arith, few_taken_groups, length-byte_groups, length-judged)

pub all_of_first : (u : Terms) (p : Progress) (bytes : List ℕ) (w interval held n taken : ℕ) → IsProgress u p → w ≡ storage_len u.params
    → interval ≡ interval_len u.params → held ≡ length p.held → 0 < n → n ≤ length bytes / w → IsFewOrWhole interval (held + n)
    → taken ≡ taken_of_first u p bytes (n * w) → taken ≡ n → IsPart u p (take (n * w) bytes)
all_of_first u p bytes w interval held n taken h width long are_held some few fills many all =
    part_of_taken u p (take (n * w) bytes) n h (length-judged u.params bytes n w width few) some (rw (are_held, long) at fills) (sym many ∙ all)

none_begun : (held n i taken : ℕ) → (0 < held → held + n ≤ i) → i ≤ taken → taken ≤ n → held ≡ 0
none_begun zero n i taken begun most few = refl
none_begun (suc held) n i taken begun most few = absurd (omega (arith, begun (omega arith)))

pub front_bytes : (bytes : List ℕ) (w i n taken : ℕ) → n ≤ length bytes / w → taken ≤ n → (taken - taken % i) * w ≤ length bytes
front_bytes bytes w i n taken few fewer = mul_within (taken - taken % i) (length bytes) w (omega arith)

-- of the first n samples, the whole intervals that are taken are a part
pub front_of_first : (u : Terms) (p : Progress) (bytes : List ℕ) (w interval held n taken : ℕ) → IsProgress u p → w ≡ storage_len u.params
    → interval ≡ interval_len u.params → held ≡ length p.held → n ≤ length bytes / w → (0 < held → held + n ≤ interval)
    → taken ≡ taken_of_first u p bytes (n * w) → interval ≤ taken → IsPart u p (take ((taken - taken % interval) * w) bytes)
front_of_first u p bytes w interval held n taken h width long are_held few begun many most =
    let s = u.params in
    let m = taken - taken % interval in
    let judged = take (n * w) bytes in
    let positive : 0 < interval = omega arith in
    let fewer = few_of_first u p bytes w n taken h width few many in
    let whole_m : m ≡ taken / interval * interval = omega arith in
    let some : 0 < m = omega arith in
    let within : m ≤ n = omega arith in
    let front = take-take (m * w) (n * w) bytes (mul-le-mul_right w within) in
    let all : length p.held + m ≡ taken / interval * interval = omega (arith, none_begun held n interval taken begun most fewer) in
    let fills : IsFewOrWhole interval (length p.held + m) = inr (rw (all, mul-mod_left)) in
    front_of_taken u p judged (take (m * w) bytes) (drop (m * w) judged) m taken h
    (cc (take-append-drop (m * w) judged)) (length-judged s bytes m w width (omega arith)) some (rw (← long) fills) many (omega arith)

within_interval : (held n i taken : ℕ) → (0 < held → held + n ≤ i) → taken < n → taken < i → held + taken < i
within_interval zero n i taken begun fewer below = omega arith
within_interval (suc held) n i taken begun fewer below = omega arith

-- if one of the first n samples is refused, in the next interval, the bytes are refused
pub first_refused : (u : Terms) (p : Progress) (bytes : List ℕ) (bits : List Bool) (w interval held n taken : ℕ) → IsProgress u p
    → w ≡ storage_len u.params → interval ≡ interval_len u.params → held ≡ length p.held → n ≤ length bytes / w
    → (0 < held → held + n ≤ interval) → taken ≡ taken_of_first u p bytes (n * w) → taken < n → taken < interval
    → StopsFeeding (coder_at u p []) bytes bits bits (refusal_at u.limit (p.count + taken))
first_refused u p bytes bits w interval held n taken h width long are_held few begun many fewer below =
    part_refused u p bytes (take (n * w) bytes) (drop (n * w) bytes) bits n taken h (sym (take-append-drop (n * w) bytes))
    (length-judged u.params bytes n w width few) many fewer (omega (arith, within_interval held n interval taken begun fewer below))
