-- How many intervals a removal opens.
use Rattle.std.proofs.Common.{◌≡◌, ℕ, zero, suc, ◌+◌, ◌-◌, ◌*◌, ◌/◌, ◌%◌, ◌<◌, ◌≤◌, min, Bool, true, false, inl, inr, cond, eqb, ltb, [], ◌∷◌, ◌++◌, length, refl, ap, ◌∙◌, arith, length-append}
use Rattle.std.specs.List.{range_with_len, filter}
use Rattle.std.specs.Int.{div_ceil}
use Rattle.std.proofs.lemmas.Bool.{le-ltb, eq-eqb, ne_eqb, or_from, cases_eq, cases_lt}
use Rattle.std.proofs.lemmas.List.Elements.{filter-append}
use Rattle.std.proofs.lemmas.List.FromFn.{length-range_with_len}
use Rattle.std.proofs.Math.Nat.{div-add-mod', mul-le-mul_right, mod-lt}
use Rattle.aec_params.specs.declared.edit.Edit.TheVariants.{Remove}
use Rattle.aec_params.specs.Edits.{Stretch, keeps_a_sample, needed_calls, opened_intervals, reached_intervals}
use Rattle.aec_params.specs.EditLaws.{inside_calls}
use Rattle.aec_params.proofs.CountLaws.{ceil_bounds, row_below}
use Rattle.aec_params.proofs.EditLaws.{div-le, positive, length-filter-le, filter-one_more, filter-none, keeps_head, keeps_tail}
use Rattle.aec_params.proofs.MoveLaws.{from_to, ceil_inside, div-whole, whole-inside, needed_calls-remove}

-- ---- intervals that a removal opens

pub range-append : (a m k : ℕ) → range_with_len a (m + k) ≡ range_with_len a m ++ range_with_len (a + m) k
range-append a zero k = let same : a ≡ a + 0 = omega arith in let none : 0 + k ≡ k = omega arith in rw none (ap (λ t. range_with_len t k) same)
range-append a (suc m) k =
    let count : suc m + k ≡ suc (m + k) = omega arith in
    let place : a + 1 + m ≡ a + suc m = omega arith in
    rw count (ap (λ l. a ∷ l) (range-append (a + 1) m k ∙ ap (λ b. range_with_len (a + 1) m ++ range_with_len b k) place))

-- an interval that lies within the removed places keeps no sample
keeps_none : (n old first stop k : ℕ) → first ≤ k * n → k * n + n ≤ stop → keeps_a_sample n old (from_to first stop) k ≡ false
keeps_none n old first stop k behind before =
    or_from (ltb (k * n) first) (ltb stop (min (k * n + n) old))
    (le-ltb (k * n) first behind) (le-ltb stop (min (k * n + n) old) (omega arith))

-- of the intervals that end by `stop`, only the first can keep a sample, and only if the place is
-- inside it
first_alone : (n old first stop m : ℕ) → 0 < n → (first / n + m) * n ≤ stop
    → length (filter (keeps_a_sample n old (from_to first stop)) (range_with_len (first / n) m)) ≤ inside_calls n first
first_alone n old first stop zero h within = omega arith
first_alone n old first stop (suc m) h within = elim (cases_eq (first % n) 0) [ inl none ↦ whole none | inr some ↦ cut some ]
  where
    parts : first / n * n + first % n ≡ first
    parts = omega (arith, div-add-mod' first n)

    kept_none : (k : ℕ) → first ≤ k * n → k < first / n + suc m → keeps_a_sample n old (from_to first stop) k ≡ false
    kept_none k behind below = keeps_none n old first stop k behind (omega (arith, row_below k (first / n + suc m) n below))

    whole : first % n ≡ 0 → length (filter (keeps_a_sample n old (from_to first stop)) (range_with_len (first / n) (suc m))) ≤ inside_calls n first
    whole none =
        let empty = filter-none (keeps_a_sample n old (from_to first stop)) (first / n) (suc m)
        (λ k from below. kept_none k (omega (arith, parts, mul-le-mul_right {m = first / n} {n = k} n from)) below) in
        omega (arith, ap length empty)

    cut : (first % n ≡ 0 → ⊥) → length (filter (keeps_a_sample n old (from_to first stop)) (range_with_len (first / n) (suc m))) ≤ inside_calls n first
    cut some =
        let test : eqb (first % n) 0 ≡ false = ne_eqb (first % n) 0 some in
        let one = filter-one_more (keeps_a_sample n old (from_to first stop)) (first / n) (range_with_len (first / n + 1) m) in
        let others = filter-none (keeps_a_sample n old (from_to first stop)) (first / n + 1) m
        (λ k from below. kept_none k (omega (arith, parts, mod-lt first h, row_below (first / n) k n (omega arith))) (omega arith)) in
        rw test (omega (arith, one, ap length others))

-- the intervals below number m are those before the last cut interval, and those from it on
split_at_cut : (n old first stop m : ℕ) → first / n ≤ stop / n → stop / n ≤ m
    → length (filter (keeps_a_sample n old (from_to first stop)) (range_with_len (first / n) (m - first / n)))
    ≡ length (filter (keeps_a_sample n old (from_to first stop)) (range_with_len (first / n) (stop / n - first / n)))
    + length (filter (keeps_a_sample n old (from_to first stop)) (range_with_len (stop / n) (m - stop / n)))
split_at_cut n old first stop m low high =
    let keeps : ℕ → Bool = keeps_a_sample n old (from_to first stop) in
    let count : m - first / n ≡ stop / n - first / n + (m - stop / n) = omega arith in
    let place : first / n + (stop / n - first / n) ≡ stop / n = omega arith in
    let before = range_with_len (first / n) (stop / n - first / n) in
    let behind = range_with_len (stop / n) (m - stop / n) in
    let split : range_with_len (first / n) (m - first / n) ≡ before ++ behind =
    ap (range_with_len (first / n)) count ∙ range-append (first / n) (stop / n - first / n) (m - stop / n)
    ∙ ap (λ k. before ++ range_with_len k (m - stop / n)) place in
    ap (λ l. length (filter keeps l)) split ∙ ap length (filter-append keeps before behind) ∙ length-append (filter keeps before) (filter keeps behind)

-- only the first interval, and those from the last cut interval on, can keep a sample
removal_keeps : (n old first stop m : ℕ) → 0 < n → first ≤ stop → stop / n ≤ m
    → length (filter (keeps_a_sample n old (from_to first stop)) (range_with_len (first / n) (m - first / n))) ≤ inside_calls n first + (m - stop / n)
removal_keeps n old first stop m h order high =
    let low : first / n ≤ stop / n = div-le n first stop h order in
    let place : first / n + (stop / n - first / n) ≡ stop / n = omega arith in
    let product : (first / n + (stop / n - first / n)) * n ≡ stop / n * n = ap (λ t. t * n) place in
    omega (
      arith,
      split_at_cut n old first stop m low high,
      first_alone n old first stop (stop / n - first / n) h (omega (arith, div-add-mod' stop n)),
      length-filter-le (keeps_a_sample n old (from_to first stop)) (range_with_len (stop / n) (m - stop / n)),
      length-range_with_len (stop / n) (m - stop / n),
    )

-- the last cut interval is at most one after the last interval
cut_within : (n old stop : ℕ) → 0 < n → stop ≤ old → stop / n ≤ div_ceil old n
cut_within n old stop h within =
    elim (cases_lt (div_ceil old n) (stop / n)) [
      | inr at_most ↦ at_most
      | inl past ↦ absurd (omega (arith, div-add-mod' stop n, row_below (div_ceil old n) (stop / n) n past, (ceil_bounds old n h).0))
    ]

-- at most two intervals more can keep a sample than are coded: the first and the last cut interval
removal_codes : (n old first len : ℕ) → 0 < n → first + len ≤ old
    → inside_calls n first + (div_ceil old n - (first + len) / n) ≤ div_ceil (old - len) n - first / n + 2
removal_codes n old first len h within = elim (cases_lt (div_ceil (old - len) n + (first + len) / n + 1) (div_ceil old n + first / n)) [
  | inr few ↦ omega (arith, inside_few (eqb (first % n) 0))
  | inl many ↦
      absurd (omega (
        arith,
        row_below (div_ceil (old - len) n + (first + len) / n + 1) (div_ceil old n + first / n) n many,
        products,
        ceil_bounds old n h,
        ceil_bounds (old - len) n h,
        div-add-mod' first n,
        div-add-mod' (first + len) n,
        mod-lt (first + len) h,
      ))
]
  where
    inside_few : (begins : Bool) → cond begins 0 1 ≤ 1
    inside_few true = omega arith
    inside_few false = omega arith

    products : ((div_ceil (old - len) n + (first + len) / n + 1) * n ≡ div_ceil (old - len) n * n + (first + len) / n * n + n)
        × ((div_ceil old n + first / n) * n ≡ div_ceil old n * n + first / n * n)
    products = (omega arith, omega arith)

inside_one : (n first : ℕ) → inside_calls n first ≤ 1
inside_one n first = by_test (eqb (first % n) 0)
  where
    by_test : (begins : Bool) → cond begins 0 1 ≤ 1
    by_test true = omega arith
    by_test false = omega arith

pub removals_open : (n old first len : ℕ) → 0 < n → first + len ≤ old
    → opened_intervals n old (Remove first len) ≤ needed_calls n old (Remove first len) + 2
removals_open n old first len h within =
    omega (arith, by_tests (eqb len 0) (eqb (len % n) 0), needed_calls-remove n old first len h)
  where
    by_tests : (none whole : Bool)
        → length (filter (keeps_a_sample n old (from_to first (first + len)))
        (cond none [] (reached_intervals n (from_to first (cond whole (first + len) old)))))
        ≤ cond none 0 (cond whole (inside_calls n first) (div_ceil (old - len) n - first / n)) + 2
    by_tests true whole = omega arith
    by_tests false true =
        let ceil = ceil_inside n (first + len) h in
        omega (
          arith,
          removal_keeps n old first (first + len) (div_ceil (first + len) n) h (omega arith) (omega arith),
          inside_one n (first + len),
        )
    by_tests false false =
        omega (
          arith,
          removal_keeps n old first (first + len) (div_ceil old n) h (omega arith) (cut_within n old (first + len) h within),
          removal_codes n old first len h within,
        )

-- ---- intervals that a removal of whole intervals opens

module _ (n old first len : ℕ) (h : 0 < n) (some : 0 < len) (whole : len % n ≡ 0) (within : first + len ≤ old) where
  abbrev gone : Stretch
  gone = from_to first (first + len)

  -- the place after the removed ones is len / n > 0 intervals later
  later : ((first + len) / n ≡ first / n + len / n) × (0 < len / n) × ((len / n) * n ≡ len)
  later =
      let parts : len / n * n + len % n ≡ len = omega (arith, div-add-mod' len n) in
      (div-whole n first len h whole, positive (len / n) (λ e. absurd (omega (arith, parts, ap (λ k. k * n) e))), omega arith)

  stop_inside : inside_calls n (first + len) ≡ inside_calls n first
  stop_inside = ap (λ t. cond (eqb t 0) 0 1) (whole-inside n first len h whole)

  none_cut : first % n ≡ 0 → length (filter (keeps_a_sample n old gone) (reached_intervals n gone)) ≡ 0
  none_cut begins =
      let inside : inside_calls n first ≡ 0 = ap (λ t. cond (eqb t 0) 0 1) begins in
      let ceil = ceil_inside n (first + len) h in
      omega (
        arith,
        stop_inside,
        removal_keeps n old first (first + len) (div_ceil (first + len) n) h (omega arith) (omega arith),
      )

  module _ (cut : first % n ≡ 0 → ⊥) where
    is_inside : inside_calls n first ≡ 1
    is_inside = let test : eqb (first % n) 0 ≡ false = ne_eqb (first % n) 0 cut in ap (λ b. cond b 0 1) test

    begins : first / n * n + first % n ≡ first
    begins = omega (arith, div-add-mod' first n)

    stop_begins : (first + len) / n * n ≡ first / n * n + len
    stop_begins = ap (λ k. k * n) later.0 ∙ omega (arith, later.2)

    front_some : (m : ℕ) → 0 < m → 1 ≤ length (filter (keeps_a_sample n old gone) (range_with_len (first / n) m))
    front_some zero more = absurd (omega arith)
    front_some (suc m) more =
        let test = keeps_head n old first (first + len) (first / n) (omega (arith, begins, positive (first % n) cut)) in
        rw test (omega arith)

    front_one : length (filter (keeps_a_sample n old gone) (range_with_len (first / n) ((first + len) / n - first / n))) ≡ 1
    front_one =
        let place : first / n + ((first + len) / n - first / n) ≡ (first + len) / n = omega (arith, later.0) in
        let product : (first / n + ((first + len) / n - first / n)) * n ≡ (first + len) / n * n = ap (λ t. t * n) place in
        let most = first_alone n old first (first + len) ((first + len) / n - first / n) h (omega (arith, div-add-mod' (first + len) n)) in
        let least = front_some ((first + len) / n - first / n) (omega (arith, later.0, later.1)) in
        omega (arith, is_inside)

    one_left : div_ceil (first + len) n - (first + len) / n ≡ 1
    one_left = omega (arith, ceil_inside n (first + len) h, stop_inside, is_inside)

    last_by : (b : Bool) → keeps_a_sample n old gone ((first + len) / n) ≡ b
        → length (filter (keeps_a_sample n old gone) (range_with_len ((first + len) / n) (div_ceil (first + len) n - (first + len) / n))) ≡ cond b 1 0
    last_by b test = rw (one_left, test) (by_test b)
      where
        by_test : (b : Bool) → length (cond b ((first + len) / n ∷ []) []) ≡ cond b 1 0
        by_test true = refl
        by_test false = refl

    parts_of : (b : Bool) → keeps_a_sample n old gone ((first + len) / n) ≡ b
        → length (filter (keeps_a_sample n old gone) (reached_intervals n gone)) ≡ 1 + cond b 1 0
    parts_of b test =
        split_at_cut n old first (first + len) (div_ceil (first + len) n) (omega (arith, later.0)) (omega (arith, one_left))
        ∙ omega (arith, front_one, last_by b test)

    one_cut : first + len ≡ old → length (filter (keeps_a_sample n old gone) (reached_intervals n gone)) ≡ 1
    one_cut end =
        parts_of false (or_from (ltb ((first + len) / n * n) first) (ltb (first + len) (min ((first + len) / n * n + n) old))
        (le-ltb ((first + len) / n * n) first (omega (arith, stop_begins, begins, mod-lt first h, later.2, row_below 0 (len / n) n later.1)))
        (le-ltb (first + len) (min ((first + len) / n * n + n) old) (omega arith)))

    two_cut : (first + len ≡ old → ⊥) → length (filter (keeps_a_sample n old gone) (reached_intervals n gone)) ≡ 2
    two_cut inside =
        parts_of true (keeps_tail n old first (first + len) ((first + len) / n)
        (below (differ (first + len) old within inside) (omega (arith, stop_begins, begins, mod-lt first h))))
      where
        differ : (a b : ℕ) → a ≤ b → (a ≡ b → ⊥) → a < b
        differ a b h not = elim (cases_lt a b) [ inl less ↦ less | inr more ↦ absurd (not (omega arith)) ]

        below : {a b c : ℕ} → a < b → a < c → a < min c b
        below less also = omega arith

  whole_opened : length (filter (keeps_a_sample n old gone) (reached_intervals n gone)) ≡ cond (eqb (first % n) 0) 0 (cond (eqb (first + len) old) 1 2)
  whole_opened =
      elim (cases_eq (first % n) 0) [
        | inl none ↦ rw (eq-eqb (first % n) 0 none) (none_cut none)
        | inr cut ↦
            rw (ne_eqb (first % n) 0 cut)
            elim (cases_eq (first + len) old) [
              | inl end ↦ rw (eq-eqb (first + len) old end) (one_cut cut end)
              | inr inside ↦ rw (ne_eqb (first + len) old inside) (two_cut cut inside)
            ]
      ]

pub opened_intervals-remove : (n old first len : ℕ) → 0 < n → first + len ≤ old
    → opened_intervals n old (Remove first len)
    ≡ cond (eqb len 0) 0
    (cond (eqb (len % n) 0) (cond (eqb (first % n) 0) 0 (cond (eqb (first + len) old) 1 2))
    (length (filter (keeps_a_sample n old (from_to first (first + len))) (reached_intervals n (from_to first old)))))
opened_intervals-remove n old first len h within =
    elim (cases_eq len 0) [
      | inl none ↦ rw (eq-eqb len 0 none) refl
      | inr some ↦
          elim (cases_eq (len % n) 0) [
            | inl whole ↦ rw (ne_eqb len 0 some, eq-eqb (len % n) 0 whole) (whole_opened n old first len h (positive len some) whole within)
            | inr part ↦ rw (ne_eqb len 0 some, ne_eqb (len % n) 0 part) refl
          ]
    ]
