-- Of the intervals that an exchange reaches, it decodes the first and the last, if they keep a
-- sample.
use Rattle.std.proofs.Common.{◌≡◌, ℕ, zero, suc, ◌+◌, ◌-◌, ◌*◌, ◌/◌, ◌<◌, ◌≤◌, min, Bool, true, false, cond, nat_lt, ◌&&◌}
use Rattle.std.proofs.Common.{Result, List, [], ◌∷◌, ◌++◌, length, take, drop, ℤ, refl, sym, ap, ◌∙◌, inl, inr, subst, arith, length-append}
use Rattle.std.specs.Int.{div_ceil}
use Rattle.std.specs.Result.{IfErr}
use Rattle.std.specs.List.{range_with_len, filter}
use Rattle.std.proofs.Math.Nat.{mul-le-mul_right}
use Rattle.std.proofs.lemmas.Bool.{cases_lt}
use Rattle.std.proofs.lemmas.Bool.Decides.{nat_tests}
use Rattle.std.proofs.lemmas.Grind.{flat_map-append}
use Rattle.std.proofs.lemmas.Result.{IfErr-weaker}
use Rattle.std.proofs.lemmas.List.{append-nil, length-take, take-append-drop}
use Rattle.std.proofs.lemmas.List.Elements.{filter-append}
use Rattle.aec_params.specs.Edits.{keeps_a_sample, reached_intervals}
use Rattle.aec_params.proofs.CountLaws.{ceil_bounds, before_end}
use Rattle.aec_params.proofs.EditLaws.{length-filter-le, keeps_head, keeps_tail}
use Rattle.aec_params.proofs.MoveLaws.{from_to}
use Rattle.aec_edit.specs.Opened.{opened_by_exchange, opened_first, opened_behind, opened_count, samples_of, opened_samples}
use Rattle.aec_edit.proofs.ExchangeLemmas.{begins_before, ceil_mono}

-- ---- one interval

keeps_none : (n count first stop k : ℕ) → first ≤ k * n → min (k * n + n) count ≤ stop → keeps_a_sample n count (from_to first stop) k ≡ false
keeps_none n count first stop k after past = grind (arith, nat_tests)

-- an interval that begins before place `stop` is reached
reached_before : (n stop k : ℕ) → 0 < n → k * n < stop → k < div_ceil stop n
reached_before n stop k h before =
    elim (cases_lt k (div_ceil stop n)) [
      | inl reached ↦ reached
      | inr not ↦ absurd (omega (arith, mul-le-mul_right {m = div_ceil stop n} {n = k} n not, (ceil_bounds stop n h).0))
    ]

-- ---- tests

both_true : (a b : Bool) → (a && b) ≡ true → (a ≡ true) × (b ≡ true)
both_true true b e = (refl, e)
both_true false b e = cc

below : (a b : ℕ) → nat_lt a b ≡ true → a < b
below a b e = grind (arith, nat_tests)

second_false : (a b : ℕ) (test : Bool) → a < b → (nat_lt a b && test) ≡ false → test ≡ false
second_false a b test less e = grind (arith, nat_tests)

-- ---- filters of a range

only_last : (test : ℕ → Bool) (a d : ℕ) → ((k : ℕ) → a ≤ k → k < a + d → test k ≡ false)
    → filter test (range_with_len a (suc d)) ≡ filter test ((a + d) ∷ [])
only_last test a zero none = let e : a + 0 ≡ a = omega arith in ap (λ k. filter test (k ∷ [])) (sym e)
only_last test a (suc d) none =
    let e : a + 1 + d ≡ a + suc d = omega arith in
    skipped (none a (omega arith) (omega arith)) (filter test (range_with_len (a + 1) (suc d)))
    ∙ only_last test (a + 1) d (λ k from below. none k (omega arith) (omega arith)) ∙ ap (λ k. filter test (k ∷ [])) e
  where
    skipped : test a ≡ false → (rest : List ℕ) → cond (test a) (a ∷ rest) rest ≡ rest
    skipped e rest = rw e refl

passed : (test : ℕ → Bool) (k : ℕ) → test k ≡ true → filter test (k ∷ []) ≡ k ∷ []
passed test k e = rw e refl

dropped : (test : ℕ → Bool) (k : ℕ) → test k ≡ false → filter test (k ∷ []) ≡ []
dropped test k e = rw e refl

first_of_range : (test : ℕ → Bool) (a m : ℕ) → 0 < m → filter test (take 1 (range_with_len a m)) ≡ filter test (a ∷ [])
first_of_range test a zero some = absurd (omega arith)
first_of_range test a (suc m) some = refl

behind_first : (test : ℕ → Bool) (a m : ℕ) → 1 < m → ((k : ℕ) → a < k → k < a + m - 1 → test k ≡ false)
    → filter test (drop 1 (range_with_len a m)) ≡ filter test ((a + m - 1) ∷ [])
behind_first test a zero more none = absurd (omega arith)
behind_first test a (suc zero) more none = absurd (omega arith)
behind_first test a (suc (suc d)) more none =
    let e : a + 1 + d ≡ a + suc (suc d) - 1 = omega arith in
    only_last test (a + 1) d (λ k from below. none k (omega arith) (omega arith)) ∙ ap (λ k. filter test (k ∷ [])) e

no_range : (test : ℕ → Bool) (a m : ℕ) → m ≤ 1 → filter test (drop 1 (range_with_len a m)) ≡ []
no_range test a zero few = refl
no_range test a (suc zero) few = refl
no_range test a (suc (suc d)) few = absurd (omega arith)

none_taken : (test : ℕ → Bool) (a m : ℕ) → m ≡ 0 → filter test (take 1 (range_with_len a m)) ≡ []
none_taken test a m e = rw e refl

-- ---- the first and the others

module _ (n count first stop : ℕ) (some : 0 < n) (order : first ≤ stop) where
  abbrev keeps : ℕ → Bool
  keeps = keeps_a_sample n count (from_to first stop)

  -- how many intervals are reached
  abbrev reached : ℕ
  reached = div_ceil stop n - first / n

  first_there : first / n < div_ceil stop n → keeps (first / n) ≡ true → opened_first n count (from_to first stop) ≡ first / n ∷ []
  first_there one e = first_of_range keeps (first / n) reached (omega arith) ∙ passed keeps (first / n) e

  first_absent : (first / n < div_ceil stop n → keeps (first / n) ≡ false) → opened_first n count (from_to first stop) ≡ []
  first_absent none =
      elim (cases_lt (first / n) (div_ceil stop n)) [
        | inl one ↦ first_of_range keeps (first / n) reached (omega arith) ∙ dropped keeps (first / n) (none one)
        | inr all ↦ none_taken keeps (first / n) reached (omega arith)
      ]

  -- the intervals between the first and the last keep no sample
  between : (k : ℕ) → first / n < k → k < first / n + reached - 1 → keeps k ≡ false
  between k behind before =
      let begins = begins_before first n some in
      let low = mul-le-mul_right {m = first / n + 1} {n = k} n (omega arith) in
      let next = before_end (k + 1) stop n some (omega arith) in
      keeps_none n count first stop k (omega (arith, begins.1)) (omega arith)

  behind_is : first / n + 1 < div_ceil stop n → opened_behind n count (from_to first stop) ≡ filter keeps ((div_ceil stop n - 1) ∷ [])
  behind_is more =
      let e : first / n + reached - 1 ≡ div_ceil stop n - 1 = omega arith in
      behind_first keeps (first / n) reached (omega arith) between ∙ ap (λ k. filter keeps (k ∷ [])) e

  -- ---- whether the first and the last keep a sample

  pub first-head : first / n * n < first → opened_first n count (from_to first stop) ≡ first / n ∷ []
  first-head before = first_there (reached_before n stop (first / n) some (omega arith)) (keeps_head n count first stop (first / n) before)

  pub first-both : stop < min count (div_ceil stop n * n) → first / n + 1 ≡ div_ceil stop n → opened_first n count (from_to first stop) ≡ first / n ∷ []
  first-both behind one =
      let product : first / n * n + n ≡ div_ceil stop n * n = omega arith ∙ ap (λ k. k * n) one in
      first_there (omega arith) (keeps_tail n count first stop (first / n) (omega arith))

  pub behind-tail : stop < min count (div_ceil stop n * n) → first / n + 1 < div_ceil stop n
      → opened_behind n count (from_to first stop) ≡ (div_ceil stop n - 1) ∷ []
  behind-tail behind more =
      let one : div_ceil stop n ≡ div_ceil stop n - 1 + 1 = omega arith in
      let product : div_ceil stop n * n ≡ (div_ceil stop n - 1) * n + n = ap (λ k. k * n) one ∙ omega arith in
      behind_is more ∙ passed keeps (div_ceil stop n - 1) (keeps_tail n count first stop (div_ceil stop n - 1) (omega arith))

  pub behind-one : div_ceil stop n ≤ first / n + 1 → opened_behind n count (from_to first stop) ≡ []
  behind-one one = no_range keeps (first / n) reached (omega arith)

  pub nothing_first : first ≤ first / n * n → min count (div_ceil stop n * n) ≤ stop → opened_first n count (from_to first stop) ≡ []
  nothing_first whole past =
      first_absent (λ one.
      let up = mul-le-mul_right {m = first / n + 1} {n = div_ceil stop n} n (omega arith) in
      keeps_none n count first stop (first / n) whole (omega arith))

  pub nothing_last : min count (div_ceil stop n * n) ≤ stop → opened_behind n count (from_to first stop) ≡ []
  nothing_last past =
      elim (cases_lt (first / n + 1) (div_ceil stop n)) [
        | inr one ↦ behind-one one
        | inl more ↦
            let begins = begins_before first n some in
            let one : div_ceil stop n ≡ div_ceil stop n - 1 + 1 = omega arith in
            let product : div_ceil stop n * n ≡ (div_ceil stop n - 1) * n + n = ap (λ k. k * n) one ∙ omega arith in
            let low = mul-le-mul_right {m = first / n + 1} {n = div_ceil stop n - 1} n (omega arith) in
            behind_is more
            ∙ dropped keeps (div_ceil stop n - 1) (keeps_none n count first stop (div_ceil stop n - 1) (omega (arith, begins.1)) (omega arith))
      ]

  -- ---- how many are decoded

  pub first_few : length (opened_first n count (from_to first stop)) ≤ 1
  first_few =
      let all : List ℕ = reached_intervals n (from_to first stop) in
      omega (arith, length-filter-le keeps (take 1 all), length-take 1 all)

  pub behind_few : length (opened_behind n count (from_to first stop)) ≤ 1
  behind_few =
      elim (cases_lt (first / n + 1) (div_ceil stop n)) [
        | inr one ↦ omega (arith, ap length (behind-one one))
        | inl more ↦ omega (arith, ap length (behind_is more), length-filter-le keeps ((div_ceil stop n - 1) ∷ []))
      ]

  pub opened-parts : opened_by_exchange n count (from_to first stop) ≡ opened_first n count (from_to first stop) ++ opened_behind n count (from_to first stop)
  opened-parts =
      let all : List ℕ = reached_intervals n (from_to first stop) in
      ap (filter keeps) (sym (take-append-drop 1 all)) ∙ filter-append keeps (take 1 all) (drop 1 all)

  pub opened-count : opened_count n count (from_to first stop)
      ≡ length (opened_first n count (from_to first stop)) + length (opened_behind n count (from_to first stop))
  opened-count = ap length opened-parts ∙ length-append (opened_first n count (from_to first stop)) (opened_behind n count (from_to first stop))

  -- ---- as the code tests it, with m for n

  module _ (m k : ℕ) (b : Bool) (m_is : m ≡ n) (is : b ≡ (nat_lt (k * n) stop && keeps k)) where
    pub first_by : k ≡ first / m → b ≡ true → opened_first n count (from_to first stop) ≡ k ∷ []
    first_by k_is e =
        let first_is : k ≡ first / n = k_is ∙ ap (λ i. first / i) m_is in
        let both = both_true (nat_lt (k * n) stop) (keeps k) (sym is ∙ e) in
        first_there (subst (λ i. i < div_ceil stop n) first_is (reached_before n stop k some (below (k * n) stop both.0)))
        (subst (λ i. keeps i ≡ true) first_is both.1)
        ∙ ap (λ i. i ∷ []) (sym first_is)

    pub not_first_by : k ≡ first / m → b ≡ false → opened_first n count (from_to first stop) ≡ []
    not_first_by k_is e =
        let absent : (nat_lt (first / n * n) stop && keeps (first / n)) ≡ false =
        subst (λ i. (nat_lt (i * n) stop && keeps i) ≡ false) (k_is ∙ ap (λ i. first / i) m_is) (sym is ∙ e) in
        first_absent (λ one. second_false (first / n * n) stop (keeps (first / n)) (before_end (first / n) stop n some one) absent)

    module _ (to : ℕ) (to_is : to ≡ div_ceil stop m) (k_is : k ≡ to - 1) (more : first / m < k) where
      last_is : (k ≡ div_ceil stop n - 1) × (first / n < k)
      last_is = (k_is ∙ ap (λ i. i - 1) (to_is ∙ ap (div_ceil stop) m_is), subst (λ i. first / i < k) m_is more)

      pub behind_by : b ≡ true → opened_behind n count (from_to first stop) ≡ k ∷ []
      behind_by e =
          let both = both_true (nat_lt (k * n) stop) (keeps k) (sym is ∙ e) in
          behind_is (omega (arith, last_is.0, last_is.1)) ∙ ap (λ i. filter keeps (i ∷ [])) (sym last_is.0) ∙ passed keeps k both.1

      pub not_behind_by : b ≡ false → opened_behind n count (from_to first stop) ≡ []
      not_behind_by e =
          behind_is (omega (arith, last_is.0, last_is.1)) ∙ ap (λ i. filter keeps (i ∷ [])) (sym last_is.0)
          ∙ dropped keeps k (second_false (k * n) stop (keeps k) (before_end k stop n some (omega (arith, last_is.0, last_is.1))) (sym is ∙ e))

      -- interval k exists
      pub last_within : stop ≤ count → k < div_ceil count n
      last_within within = omega (arith, last_is.0, last_is.1, ceil_mono n stop count some within)

-- the samples of the first interval, and of those after it
pub opened_samples-parts : (n first stop : ℕ) (s : List ℤ) → 0 < n → first ≤ stop
    → opened_samples n (from_to first stop) s
    ≡ samples_of n s (opened_first n (length s) (from_to first stop)) ++ samples_of n s (opened_behind n (length s) (from_to first stop))
opened_samples-parts n first stop s some order =
    ap (samples_of n s) (opened-parts n (length s) first stop some order)
    ∙ flat_map-append (λ k. take n (drop (k * n) s)) (opened_first n (length s) (from_to first stop)) (opened_behind n (length s) (from_to first stop))

-- the samples of one interval, or of none
pub one_of : (n k : ℕ) (s : List ℤ) (opened : List ℕ) → opened ≡ k ∷ [] → samples_of n s opened ≡ take n (drop (k * n) s)
one_of n k s opened e = ap (samples_of n s) e ∙ append-nil (take n (drop (k * n) s))

pub none_of : (n : ℕ) (s : List ℤ) (opened : List ℕ) → opened ≡ [] → samples_of n s opened ≡ []
none_of n s opened e = ap (samples_of n s) e

-- ---- a fault if an interval is decoded

pub one_fault : {T E : Type 0} (r : Result T E) (P : E → Type 0) (k : ℕ) (opened : List ℕ) → opened ≡ k ∷ [] → IfErr r P
    → IfErr r (λ e. P e × (0 < length opened))
one_fault r P k opened e fault = IfErr-weaker r P (λ e. P e × (0 < length opened)) (λ y p. (p, omega (arith, ap length e))) fault
