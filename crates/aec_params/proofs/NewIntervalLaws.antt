-- The intervals that an insertion or a removal codes are those that did not exist before it.
use Rattle.std.proofs.Common.{◌≡◌, ℕ, zero, suc, ◌+◌, ◌-◌, ◌*◌, ◌/◌, ◌%◌, ◌<◌, ◌≤◌, true, false, inl, inr, eqb, Some, None, List, [], refl, sym, ap, ◌∙◌, arith, ◌⊎◌}
use Rattle.std.specs.List.{range_with_len, list_any}
use Rattle.std.specs.Int.{div_ceil}
use Rattle.std.proofs.lemmas.Bool.{lt-ltb, le-ltb, eq-eqb, ne_eqb, cases_eq, cases_lt}
use Rattle.std.proofs.Math.Nat.{div-add-mod', mul-mod_left, mod-lt, mul-le-mul_right}
use Rattle.aec_params.specs.Edits.{moved_intervals}
use Rattle.aec_params.specs.EditLaws.{Exchange, count_after, stood_at, IsFromBefore, IsNewIfOneOf}
use Rattle.aec_params.proofs.CountLaws.{row_below, before_end, past_end}
use Rattle.aec_params.proofs.EditLaws.{positive}
use Rattle.aec_params.proofs.MoveLaws.{from_to}

-- ---- numbers of a range

pub any_within : (a m k : ℕ) → a ≤ k → k < a + m → list_any (λ i. eqb i k) (range_with_len a m) ≡ true
any_within a zero k low high = absurd (omega arith)
any_within a (suc m) k low high =
    elim (cases_eq a k) [
      | inl same ↦ rw (eq-eqb a k same) refl
      | inr other ↦ rw (ne_eqb a k other) (any_within (a + 1) m k (above a k low other) (omega arith))
    ]
  where
    above : (a k : ℕ) → a ≤ k → (a ≡ k → ⊥) → a + 1 ≤ k
    above a k low other = elim (cases_lt a k) [ inl less ↦ omega arith | inr more ↦ absurd (other (omega arith)) ]

pub any_below : (a m k : ℕ) → k < a → list_any (λ i. eqb i k) (range_with_len a m) ≡ false
any_below a zero k less = refl
any_below a (suc m) k less = rw (ne_eqb a k (λ e. absurd (omega arith))) (any_below (a + 1) m k (omega arith))

pub any_behind : (a m k : ℕ) → a + m ≤ k → list_any (λ i. eqb i k) (range_with_len a m) ≡ false
any_behind a zero k past = refl
any_behind a (suc m) k past = rw (ne_eqb a k (λ e. absurd (omega arith))) (any_behind (a + 1) m k (omega arith))

-- ---- one interval

is_one : (n : ℕ) (x : Exchange) (intervals : List ℕ) (k : ℕ) → list_any (λ i. eqb i k) intervals ≡ true
    → ((i : ℕ) → IsFromBefore n x k i → ⊥) → IsNewIfOneOf n x intervals k
is_one n x intervals k is new = record { one = λ e. new; none = λ e. absurd (cc) }

is_none : (n : ℕ) (x : Exchange) (intervals : List ℕ) (k i : ℕ) → list_any (λ i. eqb i k) intervals ≡ false
    → IsFromBefore n x k i → IsNewIfOneOf n x intervals k
is_none n x intervals k i is before = record { one = λ e. absurd (cc); none = λ e. (i, before) }

-- ---- whole intervals

pub whole_len : (n len : ℕ) → len % n ≡ 0 → len / n * n ≡ len
whole_len n len whole = omega (arith, div-add-mod' len n)

pub less_by : (n k m : ℕ) → m ≤ k → (k - m) * n ≡ k * n - m * n
less_by n k m le =
    let sum : k ≡ k - m + m = omega arith in
    let product : k * n ≡ (k - m) * n + m * n = ap (λ t. t * n) sum ∙ omega arith in
    omega arith

pub part_apart : (n a b len : ℕ) → 0 < n → (len % n ≡ 0 → ⊥) → a * n ≡ b * n + len → ⊥
part_apart n a b len h part e =
    elim (cases_lt a b) [
      | inl less ↦ absurd (omega (arith, row_below a b n less))
      | inr more ↦
          let product = less_by n a b more in
          let is : len ≡ (a - b) * n = omega arith in
          part (ap (λ t. t % n) is ∙ mul-mod_left (a - b) n)
    ]

-- ---- an exchange

module _ (n old first stop fresh : ℕ) (h : 0 < n) (order : first ≤ stop) (within : stop ≤ old) where
  abbrev x : Exchange
  x = record { old = old; gone = from_to first stop; fresh = fresh }

  pub stood-front : (place : ℕ) → place < first → stood_at x place ≡ Some place
  stood-front place less = rw (lt-ltb place first less) refl

  pub stood-fresh : (place : ℕ) → first ≤ place → place < first + fresh → stood_at x place ≡ None
  stood-fresh place from less = rw (le-ltb place first from, lt-ltb place (first + fresh) less) refl

  pub stood-behind : (place : ℕ) → first + fresh ≤ place → stood_at x place ≡ Some (place - (first + fresh) + stop)
  stood-behind place past = rw (le-ltb place first (omega arith), le-ltb place (first + fresh) past) refl

  -- an interval that ends before the exchanged places is the old interval k
  pub front_stays : (k : ℕ) → k * n + n ≤ first → IsFromBefore n x k k
  front_stays k before = record { count = omega arith; each = λ j less. stood-front (k * n + j) (omega arith) }

  -- an interval after the new samples is the old interval i, if it begins where that one began
  pub behind_stays : (k i : ℕ) → first + fresh ≤ k * n → k * n + stop ≡ i * n + (first + fresh) → IsFromBefore n x k i
  behind_stays k i past moved = record {
    count = omega arith;
    each = λ j less.
        let same : k * n + j - (first + fresh) + stop ≡ i * n + j = omega arith in stood-behind (k * n + j) (omega arith) ∙ ap Some same;
  }

  -- an interval that holds a new sample is new
  pub fresh_is_new : (k : ℕ) → 0 < fresh → k * n < first + fresh → first < k * n + n → (i : ℕ) → IsFromBefore n x k i → ⊥
  fresh_is_new k some begins ends i same =
      let was = same.each (first - k * n) (omega arith) in
      let none = stood-fresh (k * n + (first - k * n)) (omega arith) (omega arith) in
      cc

  -- an interval after the new samples is new, if no old interval began at its first sample
  moved_is_new : (k : ℕ) → first + fresh ≤ k * n → k * n < count_after x → ((i : ℕ) → k * n + stop ≡ i * n + (first + fresh) → ⊥)
      → (i : ℕ) → IsFromBefore n x k i → ⊥
  moved_is_new k past inside apart i same =
      let was = same.each 0 (omega arith) in
      let is = stood-behind (k * n + 0) (omega arith) in
      let place : k * n + 0 - (first + fresh) + stop ≡ i * n + 0 = from_some (sym is ∙ was) in
      apart i (omega arith)
    where
      from_some : {a b : ℕ} → Some a ≡ Some b → a ≡ b
      from_some e = cc

  -- an interval is new if places were removed inside it
  pub cut_is_new : (k : ℕ) → fresh ≡ 0 → first < stop → k * n < first → first < k * n + n → (i : ℕ) → IsFromBefore n x k i → ⊥
  cut_is_new k none some begins ends i same =
      let was = same.each 0 (omega arith) in
      let is = stood-front (k * n + 0) (omega arith) in
      let place : k * n + 0 ≡ i * n + 0 = from_some (sym is ∙ was) in
      elim (cases_lt first (count_after x)) [
        | inr end ↦ absurd (omega (arith, same.count))
        | inl more ↦
            let next = same.each (first - k * n) (omega arith) in
            let moved = stood-behind (k * n + (first - k * n)) (omega arith) in
            let there : k * n + (first - k * n) - (first + fresh) + stop ≡ i * n + (first - k * n) = from_some (sym moved ∙ next) in
            absurd (omega arith)
      ]
    where
      from_some : {a b : ℕ} → Some a ≡ Some b → a ≡ b
      from_some e = cc

-- if no sample is removed or inserted, each interval is the old interval
pub all_stays : (n old first k : ℕ) → first ≤ old → IsFromBefore n (record { old = old; gone = from_to first first; fresh = 0 }) k k
all_stays n old first k within = record { count = omega arith; each = λ j less. stays (k * n + j) (cases_lt (k * n + j) first) }
  where
    stays : (place : ℕ) → (place < first) ⊎ (first ≤ place) → stood_at (record { old = old; gone = from_to first first; fresh = 0 }) place ≡ Some place
    stays place (inl less) = rw (lt-ltb place first less) refl
    stays place (inr past) =
        let same : place - (first + 0) + first ≡ place = omega arith in
        rw (le-ltb place first past, le-ltb place (first + 0) (omega arith)) (ap Some same)

-- ---- insertions

module _ (n old first len k : ℕ) (h : 0 < n) (within : first ≤ old) (below : k < div_ceil (old + len) n) where
  abbrev inserting : Exchange
  inserting = record { old = old; gone = from_to first first; fresh = len }

  inside : k * n < old + len
  inside = before_end k (old + len) n h below

  -- the place lies in interval first / n
  place_parts : (first / n * n ≤ first) × (first < first / n * n + n)
  place_parts = let whole = div-add-mod' first n in let small = mod-lt first h in (omega arith, omega arith)

  begins_later : first / n ≤ k → first < k * n + n
  begins_later low = omega (arith, place_parts.1, mul-le-mul_right {m = first / n} {n = k} n low)

  in_front : k < first / n → k * n + n ≤ first
  in_front less = omega (arith, place_parts.0, row_below k (first / n) n less)

  -- the intervals from that of the place on, below number m
  abbrev up_to : ℕ → List ℕ
  up_to m = range_with_len (first / n) (m - first / n)

  front_kept : (m : ℕ) → k < first / n → IsNewIfOneOf n inserting (up_to m) k
  front_kept m less =
      is_none n inserting (up_to m) k k (any_below (first / n) (m - first / n) k less)
      (front_stays n old first first len h (omega arith) within k (in_front less))

  insertion_whole : 0 < len → len % n ≡ 0 → IsNewIfOneOf n inserting (up_to (div_ceil (first + len) n)) k
  insertion_whole some whole =
      let m : ℕ = div_ceil (first + len) n in
      let parts = whole_len n len whole in
      elim (cases_lt k (first / n)) [
        | inl less ↦ front_kept m less
        | inr low ↦
            elim (cases_lt k m) [
              | inl high ↦
                  is_one n inserting (up_to m) k (any_within (first / n) (m - first / n) k low (omega arith))
                  (fresh_is_new n old first first len h (omega arith) within k some (before_end k (first + len) n h high) (begins_later low))
              | inr past ↦
                  let begins : first + len ≤ k * n = past_end k (first + len) n h past in
                  let fewer : len / n ≤ k = few begins parts (cases_lt k (len / n)) in
                  let product = less_by n k (len / n) fewer in
                  is_none n inserting (up_to m) k (k - len / n) (any_behind (first / n) (m - first / n) k (omega arith))
                  (behind_stays n old first first len h (omega arith) within k (k - len / n) begins (omega arith))
            ]
      ]
    where
      few : first + len ≤ k * n → len / n * n ≡ len → (k < len / n) ⊎ (len / n ≤ k) → len / n ≤ k
      few begins parts (inr le) = le
      few begins parts (inl less) = absurd (omega (arith, row_below k (len / n) n less))

  insertion_part : 0 < len → (len % n ≡ 0 → ⊥) → IsNewIfOneOf n inserting (up_to (div_ceil (old + len) n)) k
  insertion_part some part =
      let m : ℕ = div_ceil (old + len) n in
      elim (cases_lt k (first / n)) [
        | inl less ↦ front_kept m less
        | inr low ↦
            is_one n inserting (up_to m) k (any_within (first / n) (m - first / n) k low (omega arith))
            (elim (cases_lt (k * n) (first + len)) [
              | inl less ↦ fresh_is_new n old first first len h (omega arith) within k some less (begins_later low)
              | inr past ↦
                  moved_is_new n old first first len h (omega arith) within k past (omega (arith, inside))
                  (λ i e. part_apart n k i len h part (omega arith))
            ])
      ]

  pub insertion_new : IsNewIfOneOf n inserting (moved_intervals n len (old + len) (from_to first (first + len))) k
  insertion_new =
      elim (cases_eq len 0) [
        | inl none ↦ rw none (is_none n (record { old = old; gone = from_to first first; fresh = 0 }) [] k k refl (all_stays n old first k within))
        | inr some ↦
            elim (cases_eq (len % n) 0) [
              | inl whole ↦ rw (ne_eqb len 0 some, eq-eqb (len % n) 0 whole) (insertion_whole (positive len some) whole)
              | inr part ↦ rw (ne_eqb len 0 some, ne_eqb (len % n) 0 part) (insertion_part (positive len some) part)
            ]
      ]

-- ---- removals

module _ (n old first len k : ℕ) (h : 0 < n) (within : first + len ≤ old) (below : k < div_ceil (old - len) n) where
  abbrev removing : Exchange
  removing = record { old = old; gone = from_to first (first + len); fresh = 0 }

  left_inside : k * n < old - len
  left_inside = before_end k (old - len) n h below

  cut_parts : (first / n * n ≤ first) × (first < first / n * n + n)
  cut_parts = let whole = div-add-mod' first n in let small = mod-lt first h in (omega arith, omega arith)

  abbrev cut_to : ℕ → List ℕ
  cut_to m = range_with_len (first / n) (m - first / n)

  front_left : (m : ℕ) → k < first / n → IsNewIfOneOf n removing (cut_to m) k
  front_left m less =
      is_none n removing (cut_to m) k k (any_below (first / n) (m - first / n) k less)
      (front_stays n old first (first + len) 0 h (omega arith) within k (omega (arith, cut_parts.0, row_below k (first / n) n less)))

  cut_left : 0 < len → first / n ≤ k → k * n < first → (i : ℕ) → IsFromBefore n removing k i → ⊥
  cut_left some low less =
      cut_is_new n old first (first + len) 0 h (omega arith) within k refl (omega arith) less
      (omega (arith, cut_parts.1, mul-le-mul_right {m = first / n} {n = k} n low))

  removal_whole : 0 < len → len % n ≡ 0 → IsNewIfOneOf n removing (cut_to (div_ceil first n)) k
  removal_whole some whole =
      let m : ℕ = div_ceil first n in
      let parts = whole_len n len whole in
      elim (cases_lt k (first / n)) [
        | inl less ↦ front_left m less
        | inr low ↦
            elim (cases_lt k m) [
              | inl high ↦
                  is_one n removing (cut_to m) k (any_within (first / n) (m - first / n) k low (omega arith)) (cut_left some low (before_end k first n h high))
              | inr past ↦
                  let begins : first ≤ k * n = past_end k first n h past in
                  let product : (k + len / n) * n ≡ k * n + len / n * n = omega arith in
                  is_none n removing (cut_to m) k (k + len / n) (any_behind (first / n) (m - first / n) k (omega arith))
                  (behind_stays n old first (first + len) 0 h (omega arith) within k (k + len / n) (omega arith) (omega arith))
            ]
      ]

  removal_part : 0 < len → (len % n ≡ 0 → ⊥) → IsNewIfOneOf n removing (cut_to (div_ceil (old - len) n)) k
  removal_part some part =
      let m : ℕ = div_ceil (old - len) n in
      elim (cases_lt k (first / n)) [
        | inl less ↦ front_left m less
        | inr low ↦
            is_one n removing (cut_to m) k (any_within (first / n) (m - first / n) k low (omega arith))
            (elim (cases_lt (k * n) first) [
              | inl less ↦ cut_left some low less
              | inr past ↦
                  moved_is_new n old first (first + len) 0 h (omega arith) within k (omega arith) (omega (arith, left_inside))
                  (λ i e. part_apart n i k len h part (omega arith))
            ])
      ]

  pub removal_new : IsNewIfOneOf n removing (moved_intervals n len (old - len) (from_to first first)) k
  removal_new =
      elim (cases_eq len 0) [
        | inl none ↦ nothing none
        | inr some ↦
            elim (cases_eq (len % n) 0) [
              | inl whole ↦ rw (ne_eqb len 0 some, eq-eqb (len % n) 0 whole) (removal_whole (positive len some) whole)
              | inr part ↦ rw (ne_eqb len 0 some, ne_eqb (len % n) 0 part) (removal_part (positive len some) part)
            ]
      ]
    where
      nothing : len ≡ 0 → IsNewIfOneOf n removing (moved_intervals n len (old - len) (from_to first first)) k
      nothing none =
          let stop : first + 0 ≡ first = omega arith in
          rw (none, stop) (is_none n (record { old = old; gone = from_to first first; fresh = 0 }) [] k k refl (all_stays n old first k (omega arith)))
