-- Lists cut after their last whole piece; groups of bytes, and intervals of samples, one after the
-- other.
use Rattle.std.proofs.Common.{◌≡◌, ℕ, zero, suc, ◌+◌, ◌*◌, ◌/◌, ◌<◌, List, [], ◌++◌, length, take, drop, append-nil, append_assoc, arith, ℤ}
use Rattle.std.proofs.Math.Nat.{add-mul-div_right, div-eq_of_lt}
use Rattle.std.proofs.lemmas.List.{take_at, drop_at, take-append-drop, length-take, length-drop, length-append, nil_from_length}
use Rattle.std.proofs.lemmas.Nat.{mod_below}
use Rattle.aec_params.specs.declared.settings.Settings.{Settings}
use Rattle.aec_params.specs.Params.{IsAllowed, interval_len, storage_len}
use Rattle.aec_params.specs.Stored.{byte_groups}
use Rattle.aec_params.specs.Streams.{stream_of}
use Rattle.aec_params.proofs.StoredLemmas.{storage-least, byte_groups-group, byte_groups-short}
use Rattle.aec_params.proofs.SampleLaws.{interval_len-positive}
use Rattle.aec_bits.proofs.CodeLaws.{code_of-append}
use Rattle.aec_interval.specs.IntervalFormat.{interval_format}
use Rattle.aec_interval.specs.Feeding.{whole_front, left_behind}

-- ---- whole pieces and what is left

pub whole_and_left : {X : Type 0} (n : ℕ) (xs : List X) → whole_front n xs ++ left_behind n xs ≡ xs
whole_and_left n xs = take-append-drop (length xs / n * n) xs

pub length-whole_front : {X : Type 0} (n : ℕ) (xs : List X) → 0 < n → length (whole_front n xs) ≡ length xs / n * n
length-whole_front n xs h = omega (arith, length-take (length xs / n * n) xs)

pub left_behind-few : {X : Type 0} (n : ℕ) (xs : List X) → 0 < n → length (left_behind n xs) < n
left_behind-few n xs h = omega (arith, length-drop (length xs / n * n) xs, mod_below (length xs) n h)

-- k whole pieces, and less than one piece
whole_len : {X : Type 0} (n k : ℕ) (front back : List X) → length front ≡ k * n → length back < n → length front ≡ length (front ++ back) / n * n
whole_len n k front back whole few = grind (arith, length-append, add-mul-div_right, div-eq_of_lt)

pub whole_front-cut : {X : Type 0} (n k : ℕ) (front back : List X) → length front ≡ k * n → length back < n → whole_front n (front ++ back) ≡ front
whole_front-cut n k front back whole few =
    take_at front back (length (front ++ back) / n * n) (whole_len n k front back whole few)

pub left_behind-cut : {X : Type 0} (n k : ℕ) (front back : List X) → length front ≡ k * n → length back < n → left_behind n (front ++ back) ≡ back
left_behind-cut n k front back whole few = drop_at front back (length (front ++ back) / n * n) (whole_len n k front back whole few)

-- the whole pieces of xs, the whole pieces of its rest with ys, and what is left then
regrouped : {X : Type 0} (n : ℕ) (xs ys : List X)
    → xs ++ ys ≡ (whole_front n xs ++ whole_front n (left_behind n xs ++ ys)) ++ left_behind n (left_behind n xs ++ ys)
regrouped n xs ys =
    let more = left_behind n xs ++ ys in
    cc (
      whole_and_left n xs,
      append_assoc (whole_front n xs) (left_behind n xs) ys,
      append_assoc (whole_front n xs) (whole_front n more) (left_behind n more),
      whole_and_left n more,
    )

regrouped_len : {X : Type 0} (n : ℕ) (xs more : List X) → 0 < n → length (whole_front n xs ++ whole_front n more) ≡ (length xs / n + length more / n) * n
regrouped_len n xs more h =
    omega (arith, length-append (whole_front n xs) (whole_front n more), length-whole_front n xs h, length-whole_front n more h)

pub whole_front-append : {X : Type 0} (n : ℕ) (xs ys : List X) → 0 < n
    → whole_front n (xs ++ ys) ≡ whole_front n xs ++ whole_front n (left_behind n xs ++ ys)
whole_front-append n xs ys h =
    let more = left_behind n xs ++ ys in
    rw (
      regrouped n,
      whole_front-cut n (length xs / n + length more / n) (whole_front n xs ++ whole_front n more) (left_behind n more)
          (regrouped_len n xs more h) (left_behind-few n more h),
    )

pub left_behind-append : {X : Type 0} (n : ℕ) (xs ys : List X) → 0 < n → left_behind n (xs ++ ys) ≡ left_behind n (left_behind n xs ++ ys)
left_behind-append n xs ys h =
    let more = left_behind n xs ++ ys in
    rw (
      regrouped n,
      left_behind-cut n (length xs / n + length more / n) (whole_front n xs ++ whole_front n more) (left_behind n more)
          (regrouped_len n xs more h) (left_behind-few n more h),
    )

-- less than one piece
pub whole_front-few : {X : Type 0} (n : ℕ) (xs : List X) → length xs < n → whole_front n xs ≡ []
whole_front-few n xs few = whole_front-cut n 0 [] xs (omega arith) few

pub left_behind-few_all : {X : Type 0} (n : ℕ) (xs : List X) → length xs < n → left_behind n xs ≡ xs
left_behind-few_all n xs few = left_behind-cut n 0 [] xs (omega arith) few

-- only whole pieces
pub whole_front-all : {X : Type 0} (n k : ℕ) (xs : List X) → 0 < n → length xs ≡ k * n → whole_front n xs ≡ xs
whole_front-all n k xs h whole = cc (append-nil xs, whole_front-cut n k xs [] whole h)

pub left_behind-none : {X : Type 0} (n k : ℕ) (xs : List X) → 0 < n → length xs ≡ k * n → left_behind n xs ≡ []
left_behind-none n k xs h whole = rw (← (append-nil xs), left_behind-cut n k)

-- ---- intervals of samples

pub stream_of-append : (s : Settings) (k : ℕ) (front back : List ℤ) → IsAllowed s → length front ≡ k * interval_len s
    → stream_of s (front ++ back) ≡ stream_of s front ++ stream_of s back
stream_of-append s k front back a whole = code_of-append (interval_format s) k front back (omega (arith, interval_len-positive)) whole

-- ---- groups of bytes

pub byte_groups-whole : (s : Settings) (k : ℕ) (front back : List ℕ) → IsAllowed s → length front ≡ k * storage_len s
    → byte_groups s (front ++ back) ≡ byte_groups s front ++ byte_groups s back
byte_groups-whole s zero front back a whole =
    let none : front ≡ [] = nil_from_length front (omega arith) in
    let some = storage-least s a in
    rw (none, byte_groups-short s [])
byte_groups-whole s (suc k) front back a whole =
    let n = storage_len s in
    let g = take n front in
    let later = drop n front in
    let next : suc k * n ≡ k * n + n = omega arith in
    let first : length g ≡ n = omega (arith, length-take n front) in
    let fewer : length later ≡ k * n = omega (arith, length-drop n front) in
    cc (
      take-append-drop n front,
      append_assoc g later back,
      byte_groups-group s g (later ++ back) a first,
      byte_groups-whole s k later back a fewer,
      byte_groups-group s g later a first,
    )

pub byte_groups-append : (s : Settings) (xs ys : List ℕ) → IsAllowed s
    → byte_groups s (xs ++ ys) ≡ byte_groups s xs ++ byte_groups s (left_behind (storage_len s) xs ++ ys)
byte_groups-append s xs ys a =
    let n = storage_len s in
    let some : 0 < n = omega (arith, storage-least) in
    let front = whole_front n xs in
    let left = left_behind n xs in
    let whole = length-whole_front n xs some in
    let alone : byte_groups s xs ≡ byte_groups s front =
    cc (
      whole_and_left n xs,
      byte_groups-whole s (length xs / n) front left a whole,
      byte_groups-short s left (left_behind-few n xs some),
      append-nil (byte_groups s front),
    ) in
    cc (whole_and_left n xs, append_assoc front left ys, byte_groups-whole s (length xs / n) front (left ++ ys) a whole)
